-- What calls have found in the records, over two lists of calls in a row.
use Rattle.std.proofs.Common.{◌≡◌, ℕ, zero, suc, ◌+◌, ◌-◌, ◌<◌, ◌≤◌, List, [], ◌∷◌, ◌++◌, length, take, refl, sym, ap, ◌∙◌, arith, rules, Some, None, slice_get, slice_index, ⊎_elim}
use Rattle.std.proofs.Math.Seq.{take-length}
use Rattle.std.proofs.lemmas.Bool.{cases_lt}
use Rattle.std.proofs.lemmas.List.{take-append-le}
use Rattle.vll_proc.specs.declared.syntax.Proc.{Proc}
use Rattle.vll_proc.specs.Headline.Serial.{Made, end}
use Rattle.vll_proc.proofs.Joined.{end_joined}
use Rattle.vll_check.specs.Headline.Calls.{source}
use Rattle.vll_check.specs.Headline.Catalog.{Catalog}
use Rattle.vll_core.specs.Headline.State.{Base, catalog_of}
use Rattle.vll_core.proofs.SerialRun.{length_before}
use Rattle.vll_queue.specs.Headline.Found.{AreFoundThere}

-- calls keep the number of records
pub end_length : (procs : List Proc) (calls : List Made) (records : List ℕ) → length (end procs calls records) ≡ length records
end_length procs calls records = ap (λ (cs : List Made). length (end procs cs records)) (sym (take-length calls)) ∙ length_before procs calls records (length calls)

get_left : (xs ys : List Made) (t : ℕ) → t < length xs → slice_get (xs ++ ys) t ≡ slice_get xs t
get_left [] ys t low = absurd (omega (arith, low))
get_left (x ∷ xs) ys zero low = refl
get_left (x ∷ xs) ys (suc t) low = get_left xs ys t (omega (arith, low))

get_right : (xs ys : List Made) (t : ℕ) → length xs ≤ t → slice_get (xs ++ ys) t ≡ slice_get ys (t - length xs)
get_right [] ys t high = ap (slice_get ys) (let e : t ≡ t - 0 = omega arith in e)
get_right (x ∷ xs) ys zero high = absurd (omega (arith, high))
get_right (x ∷ xs) ys (suc t) high = get_right xs ys t (omega (arith, high)) ∙ ap (slice_get ys) (let e : t - length xs ≡ suc t - suc (length xs) = omega arith in e)

take_right : (xs ys : List Made) (t : ℕ) → take (length xs + t) (xs ++ ys) ≡ xs ++ take t ys
take_right [] ys t = ap (λ (k : ℕ). take k ys) (let e : 0 + t ≡ t = omega arith in e)
take_right (x ∷ xs) ys t =
    ap (λ (k : ℕ). take k (x ∷ (xs ++ ys))) (let e : suc (length xs) + t ≡ suc (length xs + t) = omega arith in e) ∙ ap (λ (l : List Made). x ∷ l) (take_right xs ys t)

-- the records from which a second list of calls runs
abbrev pub base_after : Base → List Made → Base
base_after base calls = record { procs = base.procs; records = end base.procs calls base.records }

pub catalog_after : (base : Base) (calls : List Made) → catalog_of (base_after base calls) ≡ catalog_of base
catalog_after base calls = ap (λ (n : ℕ). let c : Catalog = record { records = n; procs = base.procs } in c) (end_length base.procs calls base.records)

-- no call has found anything
pub none_found : (base : Base) → AreFoundThere base []
none_found base t m r at is = absurd (let e : None ≡ Some m = at in search rules)

-- what the calls of both lists have found was there, if it was so in each list
pub found_in_both : (base : Base) (calls more : List Made) → AreFoundThere base calls → AreFoundThere (base_after base calls) more → AreFoundThere base (calls ++ more)
found_in_both base calls more one two t m r at is = ⊎_elim
    (λ (low : t < length calls).
    let was = one t m r (sym (get_left calls more t low) ∙ at) is in
    let below = was.within in
    record {
      value = was.value;
      is = was.is;
      ticket = was.ticket;
      within = below;
      there = was.there ∙ ap (λ (l : List Made). slice_index (end base.procs l base.records) r) (sym (take-append-le was.ticket calls more (omega (arith, below, low))));
    })
    (λ (high : length calls ≤ t).
    let was = two (t - length calls) m r (sym (get_right calls more t high) ∙ at) (ap (λ (c : Catalog). source c m.1) (catalog_after base calls) ∙ is) in
    let below = was.within in
    record {
      value = was.value;
      is = was.is;
      ticket = length calls + was.ticket;
      within = omega (arith, below, high);
      there =
          was.there
          ∙ (ap (λ (l : List ℕ). slice_index l r) (sym (end_joined base.procs calls (take was.ticket more) base.records))
          ∙ ap (λ (l : List Made). slice_index (end base.procs l base.records) r) (sym (take_right calls more was.ticket)));
    })
    (cases_lt t (length calls))
