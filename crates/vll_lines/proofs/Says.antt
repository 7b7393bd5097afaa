-- What the members of a line tell, one after the other.
use Rattle.std.proofs.Common.{◌≡◌, ℕ, ◌^◌, ◌<◌, Bool, true, false, Bor, lt-ltb, ◌&&◌, List, [], ◌∷◌, length, get_or, Option, None, Some, Ok, IfSome, codes, refl, ap, ◌∙◌, arith}
use Rattle.std.proofs.lemmas.Bool.{and_parts, false≢true}
use Rattle.std.specs.Cmp.Lexicographic.{slice_cmp}
use Rattle.std.specs.List.{list_any}
use Rattle.std.specs.Ordering.{match_ordering, nat_cmp}
use Rattle.std.specs.declared.cmp.Ordering.{Ordering}
use Rattle.std.specs.declared.cmp.Ordering.TheVariants.{Less, Equal, Greater}
use Rattle.std.specs.Str.{bytes_eq}
use Rattle.serde_json.specs.Data.{Data, Members, no_members, member, array, number, object, put, string, unsigned}
use Rattle.serde_json.specs.Find.{get}
use Rattle.serde_json.proofs.Views.{get_member-put, get_member-put_other}
use Rattle.vll_scenario.specs.Syntax.{has_only}
use Rattle.vll_scenario.specs.Tree.{each, number_at}
use Rattle.vll_lines.specs.Request.{args_of, client_of, id_in, id_of, may_names, name_of}
use Rattle.vll_lines.specs.Private.Tokens.{Says, numbers_in}
use Rattle.vll_lines.specs.declared.request.Id.{Id}
use Rattle.vll_lines.specs.declared.tokens.Told.{Told}

-- ---- names

both : (a b : Bool) → a ≡ true → b ≡ true → (a && b) ≡ true
both a b is also = rw (is, also) refl

only_at : (o : Ordering) (a b c : Members) → has_only may_names a ≡ true → has_only may_names b ≡ true → has_only may_names c ≡ true → has_only may_names (match_ordering o a b c) ≡ true
only_at Less a b c x y z = x
only_at Equal a b c x y z = y
only_at Greater a b c x y z = z

-- one more member of a line
only_put : (k : List ℕ) (d : Data) (ms : Members) → list_any (bytes_eq k) may_names ≡ true → has_only may_names ms ≡ true → has_only may_names (put k d ms) ≡ true
only_put k d no_members known only = both _ _ known refl
only_put k d (member l e ms) known only =
    let parts = and_parts _ _ only in
    only_at (slice_cmp nat_cmp k l) (member k d (member l e ms)) (member l d ms) (member l e (put k d ms)) (both _ _ known only) (both _ _ parts.0 parts.1)
    (both _ _ parts.0 (only_put k d ms known parts.1))

-- ---- the members that are not put stay

counts_stay : (k : List ℕ) (d : Data) (ms : Members) → (codes "counts" ≡ k → ⊥) → get (codes "counts") (object (put k d ms)) ≡ get (codes "counts") (object ms)
counts_stay k d ms other = get_member-put_other (codes "counts") k d ms other

records_stay : (k : List ℕ) (d : Data) (ms : Members) → (codes "records" ≡ k → ⊥) → get (codes "records") (object (put k d ms)) ≡ get (codes "records") (object ms)
records_stay k d ms other = get_member-put_other (codes "records") k d ms other

id_stays : (k : List ℕ) (d : Data) (ms : Members) → (codes "id" ≡ k → ⊥) → id_of (object (put k d ms)) ≡ id_of (object ms)
id_stays k d ms other = rw (get_member-put_other (codes "id") k d ms other) refl

client_stays : (k : List ℕ) (d : Data) (ms : Members) → (codes "client" ≡ k → ⊥) → client_of (object (put k d ms)) ≡ client_of (object ms)
client_stays k d ms other = rw (get_member-put_other (codes "client") k d ms other) refl

name_stays : (k : List ℕ) (d : Data) (ms : Members) → (codes "proc" ≡ k → ⊥) → name_of (object (put k d ms)) ≡ name_of (object ms)
name_stays k d ms other = rw (get_member-put_other (codes "proc") k d ms other) refl

args_stay : (k : List ℕ) (d : Data) (ms : Members) → (codes "args" ≡ k → ⊥) → args_of (object (put k d ms)) ≡ args_of (object ms)
args_stay k d ms other = rw (get_member-put_other (codes "args") k d ms other) refl

-- a clause of a value that stays
kept : {A B : Type 0} (o : Option A) (r s : B) (f : A → B) → r ≡ s → IfSome o (λ a. s ≡ f a) → IfSome o (λ a. r ≡ f a)
kept None r s f is h = tt
kept (Some a) r s f is h = is ∙ h

-- ---- what they tell at first, and after each

pub nothing_told : (args : List ℕ) → Says (record { id = None; client = 0; name = None; has_args = false }) args no_members
nothing_told args = record { only = refl; no_counts = refl; no_records = refl; id = refl; client = refl; name = tt; list = λ no. absurd (false≢true no) }

pub told_id : (t : Told) (args : List ℕ) (found : Members) (k : List ℕ) (d : Data) (it : Id) → k ≡ codes "id" → id_in d ≡ Ok it → Says t args found
    → Says (record { id = Some it; client = t.client; name = t.name; has_args = t.has_args }) args (put k d found)
told_id t args found k d it is read says = record {
  only = only_put k d found (ap (λ q. list_any (bytes_eq q) may_names) is) says.only;
  no_counts = counts_stay k d found (λ same. omega (arith, ap length (same ∙ is))) ∙ says.no_counts;
  no_records = records_stay k d found (λ same. omega (arith, ap length (same ∙ is))) ∙ says.no_records;
  id = ap (λ q. id_of (object (put q d found))) is ∙ rw (get_member-put (codes "id") d found) (rw read refl);
  client = client_stays k d found (λ same. omega (arith, ap length (same ∙ is))) ∙ says.client;
  name = kept t.name _ _ (λ s. Ok s.now) (name_stays k d found (λ same. omega (arith, ap length (same ∙ is)))) says.name;
  list = λ has. args_stay k d found (λ same. omega (arith, ap length (same ∙ is))) ∙ says.list has;
}

pub told_client : (t : Told) (args : List ℕ) (found : Members) (k : List ℕ) (n : ℕ) → k ≡ codes "client" → n < 2 ^ 32 → Says t args found
    → Says (record { id = t.id; client = n; name = t.name; has_args = t.has_args }) args (put k (number (unsigned n)) found)
told_client t args found k n is small says = record {
  only = only_put k (number (unsigned n)) found (ap (λ q. list_any (bytes_eq q) may_names) is) says.only;
  no_counts = counts_stay k (number (unsigned n)) found (λ same. omega (arith, ap (λ q. get_or q 1 0) (same ∙ is))) ∙ says.no_counts;
  no_records = records_stay k (number (unsigned n)) found (λ same. omega (arith, ap length (same ∙ is))) ∙ says.no_records;
  id = id_stays k (number (unsigned n)) found (λ same. omega (arith, ap length (same ∙ is))) ∙ says.id;
  client = ap (λ q. client_of (object (put q (number (unsigned n)) found))) is ∙ rw (get_member-put (codes "client") (number (unsigned n)) found) (rw (lt-ltb _ _ small) refl);
  name = kept t.name _ _ (λ s. Ok s.now) (name_stays k (number (unsigned n)) found (λ same. omega (arith, ap length (same ∙ is)))) says.name;
  list = λ has. args_stay k (number (unsigned n)) found (λ same. omega (arith, ap length (same ∙ is))) ∙ says.list has;
}

pub told_name : (t : Told) (args : List ℕ) (found : Members) (k : List ℕ) (s : Bor (List ℕ)) → k ≡ codes "proc" → Says t args found
    → Says (record { id = t.id; client = t.client; name = Some s; has_args = t.has_args }) args (put k (string s.now) found)
told_name t args found k s is says = record {
  only = only_put k (string s.now) found (ap (λ q. list_any (bytes_eq q) may_names) is) says.only;
  no_counts = counts_stay k (string s.now) found (λ same. omega (arith, ap length (same ∙ is))) ∙ says.no_counts;
  no_records = records_stay k (string s.now) found (λ same. omega (arith, ap length (same ∙ is))) ∙ says.no_records;
  id = id_stays k (string s.now) found (λ same. omega (arith, ap length (same ∙ is))) ∙ says.id;
  client = client_stays k (string s.now) found (λ same. omega (arith, ap length (same ∙ is))) ∙ says.client;
  name = ap (λ q. name_of (object (put q (string s.now) found))) is ∙ rw (get_member-put (codes "proc") (string s.now) found) refl;
  list = λ has. args_stay k (string s.now) found (λ same. omega (arith, ap (λ q. get_or q 0 0) (same ∙ is))) ∙ says.list has;
}

each_number : (ns : List ℕ) → each number_at (numbers_in ns) ≡ Ok ns
each_number [] = refl
each_number (n ∷ ns) = rw (each_number ns) refl

pub told_args : (t : Told) (before args : List ℕ) (found : Members) (k : List ℕ) → k ≡ codes "args" → Says t before found
    → Says (record { id = t.id; client = t.client; name = t.name; has_args = true }) args (put k (array (numbers_in args)) found)
told_args t before args found k is says = record {
  only = only_put k (array (numbers_in args)) found (ap (λ q. list_any (bytes_eq q) may_names) is) says.only;
  no_counts = counts_stay k (array (numbers_in args)) found (λ same. omega (arith, ap length (same ∙ is))) ∙ says.no_counts;
  no_records = records_stay k (array (numbers_in args)) found (λ same. omega (arith, ap length (same ∙ is))) ∙ says.no_records;
  id = id_stays k (array (numbers_in args)) found (λ same. omega (arith, ap length (same ∙ is))) ∙ says.id;
  client = client_stays k (array (numbers_in args)) found (λ same. omega (arith, ap length (same ∙ is))) ∙ says.client;
  name = kept t.name _ _ (λ s. Ok s.now) (name_stays k (array (numbers_in args)) found (λ same. omega (arith, ap (λ q. get_or q 0 0) (same ∙ is)))) says.name;
  list = λ _. ap (λ q. args_of (object (put q (array (numbers_in args)) found))) is ∙ rw (get_member-put (codes "args") (array (numbers_in args)) found) (rw (each_number args) refl);
}
