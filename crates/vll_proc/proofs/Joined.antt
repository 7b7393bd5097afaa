-- Lists of calls in a row, and properties that each call keeps.
use Rattle.std.proofs.Common.{◌≡◌, ℕ, zero, suc, ◌+◌, ◌<◌, List, [], ◌∷◌, ◌++◌, length, slice_get, All, refl, sym, ap, ◌∙◌, arith, zero-add}
use Rattle.vll_proc.proofs.Common.{take-append-le, Proc, Made, answer, apply, before, end, in_a_row, replies_by_epochs, end_by_epochs}
use Rattle.std.proofs.lemmas.List.Elements.{All-head, All-tail}
use Rattle.vll_proc.specs.declared.call.Reply.{Reply}
use Rattle.vll_proc.specs.Serial.{Keeps, replies}

-- the second list goes on from the end of the first
pub end_joined : (procs : List Proc) (calls more : List Made) (records : List ℕ) → end procs (calls ++ more) records ≡ end procs more (end procs calls records)
end_joined procs [] more records = refl
end_joined procs (m ∷ calls) more records = end_joined procs calls more (apply procs m.1 records).records

item_before : (xs ys : List Made) (i : ℕ) → i < length xs → slice_get (xs ++ ys) i ≡ slice_get xs i
item_before [] ys i within = absurd (omega (arith, within))
item_before (x ∷ xs) ys zero within = refl
item_before (x ∷ xs) ys (suc i) within = item_before xs ys i (omega (arith, within))

-- a call of the first list answers as it does there
pub answer_of_first : (procs : List Proc) (calls more : List Made) (records : List ℕ) (i : ℕ) → i < length calls
    → answer procs (calls ++ more) records i ≡ answer procs calls records i
answer_of_first procs calls more records i within =
    rw (item_before calls more i within, take-append-le i calls more (omega (arith, within))) refl

-- a call of the second list answers as it does there, from the end of the first
pub answer_of_second : (procs : List Proc) (calls more : List Made) (records : List ℕ) (i : ℕ)
    → answer procs (calls ++ more) records (length calls + i) ≡ answer procs more (end procs calls records) i
answer_of_second procs [] more records i = ap (answer procs more records) (zero-add i)
answer_of_second procs (m ∷ calls) more records i =
    ap (answer procs (m ∷ (calls ++ more)) records) (let e : suc (length calls) + i ≡ suc (length calls + i) = omega arith in e)
    ∙ answer_of_second procs calls more (apply procs m.1 records).records i

-- the list of replies has each call's answer
pub reply_at_place : (procs : List Proc) (calls : List Made) (records : List ℕ) (i : ℕ) → slice_get (replies procs calls records) i ≡ answer procs calls records i
reply_at_place procs [] records zero = refl
reply_at_place procs [] records (suc i) = refl
reply_at_place procs (m ∷ calls) records zero = refl
reply_at_place procs (m ∷ calls) records (suc i) = reply_at_place procs calls (apply procs m.1 records).records i

replies_joined : (procs : List Proc) (calls more : List Made) (records : List ℕ) → replies procs (calls ++ more) records ≡ replies procs calls records ++ replies procs more (end procs calls records)
replies_joined procs [] more records = refl
replies_joined procs (m ∷ calls) more records =
    ap (λ (rs : List Reply). (apply procs m.1 records).reply ∷ rs) (replies_joined procs calls more (apply procs m.1 records).records)

-- epochs reply as their calls in a row
pub replies_in_a_row : (procs : List Proc) (epochs : List (List Made)) (records : List ℕ) → replies_by_epochs procs epochs records ≡ replies procs (in_a_row epochs) records
replies_in_a_row procs [] records = refl
replies_in_a_row procs (calls ∷ more) records =
    ap (λ (rs : List Reply). replies procs calls records ++ rs) (replies_in_a_row procs more (end procs calls records))
    ∙ sym (replies_joined procs calls (in_a_row more) records)

-- and end as they do
pub end_in_a_row : (procs : List Proc) (epochs : List (List Made)) (records : List ℕ) → end_by_epochs procs epochs records ≡ end procs (in_a_row epochs) records
end_in_a_row procs [] records = refl
end_in_a_row procs (calls ∷ more) records =
    end_in_a_row procs more (end procs calls records) ∙ sym (end_joined procs calls (in_a_row more) records)

-- what each call keeps holds before every call
pub carried_before : (Has : List ℕ → Type 0) (procs : List Proc) (calls : List Made) (records : List ℕ) → Has records → All (Keeps procs Has) calls → (i : ℕ) → Has (before procs calls records i)
carried_before Has procs calls records has keep zero = has
carried_before Has procs [] records has keep (suc i) = has
carried_before Has procs (m ∷ calls) records has keep (suc i) =
    carried_before Has procs calls (apply procs m.1 records).records (All-head (Keeps procs Has) m calls keep records has) (All-tail (Keeps procs Has) m calls keep) i

-- and at the end
pub carried_to_end : (Has : List ℕ → Type 0) (procs : List Proc) (calls : List Made) (records : List ℕ) → Has records → All (Keeps procs Has) calls → Has (end procs calls records)
carried_to_end Has procs [] records has keep = has
carried_to_end Has procs (m ∷ calls) records has keep =
    carried_to_end Has procs calls (apply procs m.1 records).records (All-head (Keeps procs Has) m calls keep records has) (All-tail (Keeps procs Has) m calls keep)
