-- Two parts of a service, one after the other.
use Rattle.std.proofs.Common.{◌≡◌, ℕ, Bool, true, false, List, Option, [], ◌++◌, refl, sym, ap, ◌∙◌, rules, append_assoc, append-nil}
use Rattle.std.proofs.KnownBytes.{Appends-nil, Appends-trans, Consumes-nil, Consumes-trans}
use Rattle.std.specs.Io.KnownBytes.{Consumes}
use Rattle.vll_proc.specs.Headline.Serial.{Made, end}
use Rattle.vll_check.specs.Headline.Catalog.{Catalog}
use Rattle.vll_lines.specs.Answers.{answers}
use Rattle.vll_lines.specs.Lines.{CutsInto, lines_in}
use Rattle.vll_lines.proofs.Cuts.{are_requests_then}
use Rattle.vll_stream.specs.Private.Parts.{IsPart, Place}
use Rattle.vll_stream.proofs.Answered.{answered_then, counted_then, ordered_then, told_then}

cut_further : (is_last : Bool) (tail first mid second after : List ℕ) (one two : List (List ℕ)) → CutsInto false (tail ++ first) one mid → CutsInto is_last (mid ++ second) two after
    → CutsInto is_last (tail ++ (first ++ second)) (one ++ two) after
cut_further true tail first mid second after one two front back = (
  back.0,
  ap lines_in (sym (append_assoc tail first second)) ∙ (front second ∙ ap (λ (ls : List (List ℕ)). one ++ ls) back.1),
)
cut_further false tail first mid second after one two front back = λ rest.
    ap lines_in (append_assoc tail (first ++ second) rest ∙ (ap (λ (l : List ℕ). tail ++ l) (append_assoc first second rest) ∙ sym (append_assoc tail first (second ++ rest))))
    ∙ (front (second ++ rest)
    ∙ (ap (λ (l : List ℕ). one ++ lines_in l) (sym (append_assoc mid second rest))
    ∙ (ap (λ (ls : List (List ℕ)). one ++ ls) (back rest) ∙ sym (append_assoc one two (lines_in (after ++ rest))))))

module _ (library : Catalog) (clients : ℕ) (records : List ℕ) where
  -- bytes were read, and no line is answered yet
  pub part_unanswered : (at : Place) (left : Option (List ℕ)) (tail bytes : List ℕ) → Consumes at.input left bytes → at.tail ++ bytes ≡ tail
      → IsPart library clients records [] false at (record { input = left; tail = tail; output = at.output; counts = at.counts })
  part_unanswered at left tail bytes read is = record {
    bytes = bytes;
    read = read;
    ended = λ last. absurd (search rules);
    lines = [];
    cut = λ rest. ap (λ (l : List ℕ). lines_in (l ++ rest)) is;
    requests = [];
    are = tt;
    ordered = refl;
    text = [];
    rounds = [];
    told = refl;
    answered = refl;
    written = Appends-nil at.output;
    counts = refl;
  }

  pub part_unanswered_text : (at : Place) (left : Option (List ℕ)) (tail bytes : List ℕ) (read : Consumes at.input left bytes) (is : at.tail ++ bytes ≡ tail) → [] ≡ (part_unanswered at left tail bytes read is).text
  unfolding part_unanswered
  part_unanswered_text at left tail bytes read is = refl

  -- no round yet
  pub no_part : (at : Place) → IsPart library clients records [] false at at
  no_part at = part_unanswered at at.input at.tail [] (Consumes-nil at.input) (append-nil at.tail)

  -- a part after another one, which was not the last
  pub part_then : (is_last : Bool) (old mid new : Place) (calls more : List Made) → IsPart library clients records calls false old mid
      → IsPart library clients (end library.procs calls records) more is_last mid new → IsPart library clients records (calls ++ more) is_last old new
  part_then is_last old mid new calls more one two =
      record {
        bytes = one.bytes ++ two.bytes;
        read = Consumes-trans old.input mid.input new.input one.bytes two.bytes one.read two.read;
        ended = two.ended;
        lines = one.lines ++ two.lines;
        cut = cut_further is_last old.tail one.bytes mid.tail two.bytes new.tail one.lines two.lines one.cut two.cut;
        requests = one.requests ++ two.requests;
        are = are_requests_then library clients one.lines two.lines one.requests two.requests one.are two.are;
        ordered = ordered_then one.requests two.requests calls more one.ordered two.ordered;
        text = one.text ++ two.text;
        rounds = one.rounds ++ two.rounds;
        told = told_then one.requests two.requests one.rounds two.rounds one.told two.told;
        answered =
            let first : List ℕ = answers library.procs one.requests old.counts records calls one.rounds in
            ap (λ (l : List ℕ). l ++ two.text) one.answered
            ∙ (ap (λ (l : List ℕ). first ++ l) two.answered
            ∙ sym (answered_then one.requests two.requests calls more library.procs records one.rounds two.rounds old.counts mid.counts one.ordered one.told one.counts));
        written = Appends-trans old.output mid.output new.output one.text two.text one.written two.written;
        counts = counted_then library.procs calls more records old.counts mid.counts new.counts one.counts two.counts;
      }

  pub part_then_text : (is_last : Bool) (old mid new : Place) (calls more : List Made) (one : IsPart library clients records calls false old mid)
      (two : IsPart library clients (end library.procs calls records) more is_last mid new) → one.text ++ two.text ≡ (part_then is_last old mid new calls more one two).text
  unfolding part_then
  part_then_text is_last old mid new calls more one two = refl
