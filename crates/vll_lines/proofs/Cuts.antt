-- Bytes are cut into lines, one after the other.
use Rattle.std.proofs.Common.{◌≡◌, inl, inr, ℕ, ◌<◌, Bool, true, false, List, [], ◌∷◌, ◌++◌, refl, sym, ap, ◌∙◌, subst, length, arith, rules, Option, append_assoc, append-nil, length-append}
use Rattle.std.specs.Io.KnownBytes.{Consumes, IsAtEnd}
use Rattle.std.proofs.KnownBytes.{Consumes-nil, Consumes-trans}
use Rattle.vll_check.specs.Headline.Catalog.{Catalog}
use Rattle.vll_lines.specs.Request.{AreRequests, IsLine}
use Rattle.vll_lines.specs.Lines.{CutsInto, IsBroken, IsRound, has_feed, lines_in}
use Rattle.vll_lines.specs.Private.Cutting.{Cuts, StandsFor}
use Rattle.vll_lines.specs.declared.request.Request.{Request}
use Rattle.vll_lines.specs.declared.round.Round.{Round}
use Rattle.vll_lines.specs.declared.round.RoundFault.TheVariants as fault
use Rattle.vll_lines.specs.declared.limits.TheConstants.{MOST_LINE}
use Rattle.vll_lines.proofs.Lines.{lines_ended, lines_last, no_feed_after}

module _ (library : Catalog) (clients : ℕ) where
  pub are_requests_then : (ls ms : List (List ℕ)) (xs ys : List Request) → AreRequests library clients ls xs → AreRequests library clients ms ys → AreRequests library clients (ls ++ ms) (xs ++ ys)
  are_requests_then [] ms [] ys first second = second
  are_requests_then [] ms (a ∷ xs) ys first second = absurd first
  are_requests_then (l ∷ ls) ms [] ys first second = absurd first
  are_requests_then (l ∷ ls) ms (a ∷ xs) ys first second = (first.0, are_requests_then ls ms xs ys first.1 second)

  -- no line is cut yet
  pub cuts_none : (bytes : List ℕ) (old : List Request) → Cuts library clients bytes old old bytes
  cuts_none bytes old = record { lines = []; cut = λ rest. refl; more = []; appended = sym (append-nil old); requests = tt }

  -- the rest is cut further
  pub cuts_join : (bytes rest tail : List ℕ) (old mid new : List Request) → Cuts library clients bytes old mid rest → Cuts library clients rest mid new tail
      → Cuts library clients bytes old new tail
  cuts_join bytes rest tail old mid new one two = record {
    lines = one.lines ++ two.lines;
    cut = λ r. one.cut r ∙ (ap (λ (ls : List (List ℕ)). one.lines ++ ls) (two.cut r) ∙ sym (append_assoc one.lines two.lines (lines_in (tail ++ r))));
    more = one.more ++ two.more;
    appended = two.appended ∙ (ap (λ (xs : List Request). xs ++ two.more) one.appended ∙ append_assoc old one.more two.more);
    requests = are_requests_then one.lines two.lines one.more two.more one.requests two.requests;
  }

  -- one line is cut off
  pub cuts_one : (line rest : List ℕ) (old : List Request) (one : Request) → has_feed line ≡ false → IsLine library clients line one
      → Cuts library clients (line ++ 10 ∷ rest) old (old ++ one ∷ []) rest
  cuts_one line rest old one none is = record {
    lines = line ∷ [];
    cut = λ r. ap lines_in (append_assoc line (10 ∷ rest) r) ∙ lines_ended line (rest ++ r) none;
    more = one ∷ [];
    appended = refl;
    requests = (is, tt);
  }

  -- what is asked by bytes that stand for a line is asked by the line
  pub line_stands : (bytes line : List ℕ) (one : Request) → StandsFor bytes line → IsLine library clients bytes one → IsLine library clients line one
  line_stands bytes line one (inl same) is = subst (λ l. IsLine library clients l one) same is
  line_stands bytes line one (inr long) (inl is) = inl (long.1, is.1)
  line_stands bytes line one (inr long) (inr is) = absurd (omega (arith, long.0, is.0))

  -- the line at the end of an input
  pub asked_last : (bytes line : List ℕ) (one : Request) → StandsFor bytes line → has_feed line ≡ false → 0 < length bytes → IsLine library clients bytes one
      → AreRequests library clients (lines_in line) (one ∷ [])
  asked_last bytes [] one (inl same) none some is = absurd (omega (arith, some, ap length same))
  asked_last bytes [] one (inr long) none some is = absurd (omega (arith, long.1))
  asked_last bytes (b ∷ l) one stands none some is =
      subst (λ ls. AreRequests library clients ls (one ∷ [])) (sym (lines_last b l none)) (line_stands bytes (b ∷ l) one stands is, tt)

  -- no line at the end of an input
  pub asked_none : (line : List ℕ) → StandsFor [] line → AreRequests library clients (lines_in line) []
  asked_none [] stands = tt
  asked_none (b ∷ l) (inl same) = absurd (omega (arith, ap length same))
  asked_none (b ∷ l) (inr long) = absurd (omega (arith, long.0))

-- bytes that stand for a line do so with more bytes
pub stands_grow : (bytes line more : List ℕ) → StandsFor bytes line → StandsFor (bytes ++ more) (line ++ more)
stands_grow bytes line more (inl same) = inl (ap (λ l. l ++ more) same)
stands_grow bytes line more (inr long) = inr (omega (arith, long.0, length-append bytes more), omega (arith, long.1, length-append line more))

-- bytes that are too many for a line stand for it with more bytes
pub stands_long : (bytes line more : List ℕ) → MOST_LINE < length bytes → StandsFor bytes line → StandsFor bytes (line ++ more)
stands_long bytes line more many (inl same) = inr (many, omega (arith, many, ap length same, length-append line more))
stands_long bytes line more many (inr long) = inr (many, omega (arith, long.1, length-append line more))

-- bytes that were read have ended no line, and those after them stand for the line that has begun
pub record IsBegun (old new : Option (List ℕ)) (tail after : List ℕ) : Type 0 where
  pub bytes : List ℕ
  pub read : Consumes old new bytes
  pub stands : StandsFor after (tail ++ bytes)
  pub unended : has_feed (tail ++ bytes) ≡ false

-- no byte was read
pub begun_none : (known : Option (List ℕ)) (tail : List ℕ) → has_feed tail ≡ false → IsBegun known known tail tail
begun_none known tail none = record {
  bytes = [];
  read = Consumes-nil known;
  stands = inl (sym (append-nil tail));
  unended = ap has_feed (append-nil tail) ∙ none;
}

-- a piece that ends no line
pub begun_more : (old mid new : Option (List ℕ)) (tail after next piece : List ℕ) → IsBegun old mid tail after → Consumes mid new piece → has_feed piece ≡ false
    → ((line : List ℕ) → StandsFor after line → StandsFor next (line ++ piece)) → IsBegun old new tail next
begun_more old mid new tail after next piece begun read none grows = record {
  bytes = begun.bytes ++ piece;
  read = Consumes-trans old mid new begun.bytes piece begun.read read;
  stands = subst (StandsFor next) (append_assoc tail begun.bytes piece) (grows (tail ++ begun.bytes) begun.stands);
  unended = ap has_feed (sym (append_assoc tail begun.bytes piece)) ∙ no_feed_after (tail ++ begun.bytes) piece begun.unended none;
}

module _ (library : Catalog) (clients : ℕ) (old mid new : Option (List ℕ)) (tail after next piece : List ℕ) (r : Round) (begun : IsBegun old mid tail after) where
  -- the end of the input
  pub round_last : Consumes mid new piece → piece ≡ [] → IsAtEnd new → next ≡ [] → r.is_last ≡ true → AreRequests library clients (lines_in (tail ++ begun.bytes)) r.requests.items
      → IsRound library clients old new tail next r
  round_last read none ended empty last requests = record {
    bytes = begun.bytes;
    read = subst (Consumes old new) (append-nil begun.bytes) (Consumes-trans old mid new begun.bytes [] begun.read (subst (Consumes mid new) none read));
    ended = λ is. ended;
    lines = lines_in (tail ++ begun.bytes);
    cut = subst (λ (b : Bool). CutsInto b (tail ++ begun.bytes) (lines_in (tail ++ begun.bytes)) next) (sym last) (empty, refl);
    requests = requests;
  }

  -- a piece that ends a line
  pub round_more : Consumes mid new piece → r.is_last ≡ false → Cuts library clients ((tail ++ begun.bytes) ++ piece) [] r.requests.items next → IsRound library clients old new tail next r
  round_more read more cuts = record {
    bytes = begun.bytes ++ piece;
    read = Consumes-trans old mid new begun.bytes piece begun.read read;
    ended = λ is. absurd (let e : false ≡ true = sym more ∙ is in search rules);
    lines = cuts.lines;
    cut =
        subst (λ (b : Bool). CutsInto b (tail ++ (begun.bytes ++ piece)) cuts.lines next) (sym more)
        (subst (λ (l : List ℕ). CutsInto false l cuts.lines next) (append_assoc tail begun.bytes piece) cuts.cut);
    requests = subst (AreRequests library clients cuts.lines) (sym cuts.appended) cuts.requests;
  }

-- there was no memory for the lines of a piece
pub broken_memory : (old mid new : Option (List ℕ)) (tail after piece : List ℕ) → IsBegun old mid tail after → Consumes mid new piece → IsBroken old new fault.NoMemory
broken_memory old mid new tail after piece begun read = record {
  bytes = begun.bytes ++ piece;
  read = Consumes-trans old mid new begun.bytes piece begun.read read;
  unended = λ is. absurd (let e : fault.NoMemory ≡ fault.Read = is in search rules);
}
