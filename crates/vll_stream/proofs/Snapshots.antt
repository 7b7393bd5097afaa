-- A snapshot of the records, and the calls that it lacks.
use Rattle.std.proofs.Common.{◌≡◌, ℕ, zero, suc, ◌-◌, ◌≤◌, List, [], ◌∷◌, ◌++◌, length, take, drop, sym, ap, ◌∙◌, arith, length-append, take_all, take-append-drop, vec_capacity}
use Rattle.std.proofs.Math.Seq.{take-nil}
use Rattle.std.proofs.lemmas.List.{take-append-le}
use Rattle.vll_proc.specs.declared.syntax.Proc.{Proc}
use Rattle.vll_proc.specs.Headline.Serial.{Made, end}
use Rattle.vll_proc.proofs.Joined.{end_joined}
use Rattle.vll_queue.specs.Shown.{Named}
use Rattle.vll_stream.specs.Private.Callers.{IsSnapshot}
use Rattle.vll_stream.specs.declared.snapshot.Snapshot.{Snapshot}
use Rattle.vll_stream.proofs.Found.{end_length}

-- no call was made yet
pub first_snapshot : (e : Named) (s : Snapshot) → s.calls ≡ 0 → s.values.items ≡ e.base.records → e.config.limit ≤ vec_capacity s.room → IsSnapshot e [] s
first_snapshot e s none values room = record {
  few = omega (arith, none);
  values = values ∙ ap (λ (l : List Made). end e.base.procs l e.base.records) (sym (take-nil s.calls));
  room = room;
}

-- it stays one while more calls are made
pub snapshot_later : (e : Named) (calls more : List Made) (s : Snapshot) → IsSnapshot e calls s → IsSnapshot e (calls ++ more) s
snapshot_later e calls more s is =
    let few = is.few in
    record {
      few = let long = length-append calls more in omega (arith, few, long);
      values = is.values ∙ ap (λ (l : List Made). end e.base.procs l e.base.records) (sym (take-append-le s.calls calls more few));
      room = is.room;
    }

-- it has all records
pub values_length : (e : Named) (calls : List Made) (s : Snapshot) → IsSnapshot e calls s → length s.values.items ≡ length e.base.records
values_length e calls s is = ap length is.values ∙ end_length e.base.procs (take s.calls calls) e.base.records

-- some calls, and then the others
pub end_of_all : (procs : List Proc) (calls : List Made) (records : List ℕ) (n : ℕ) → end procs (drop n calls) (end procs (take n calls) records) ≡ end procs calls records
end_of_all procs calls records n =
    sym (end_joined procs (take n calls) (drop n calls) records) ∙ ap (λ (l : List Made). end procs l records) (take-append-drop n calls)

-- the calls from one on, among those that a session has seen
pub calls_since : (seen others : List Made) (from n : ℕ) → from ≤ n → n ≤ length seen → take (n - from) (drop from (seen ++ others)) ≡ drop from (take n seen)
calls_since seen others zero n low few = ap (λ (k : ℕ). take k (seen ++ others)) (let e : n - 0 ≡ n = omega arith in e) ∙ take-append-le n seen others few
calls_since [] others (suc from) n low few = absurd (omega (arith, low, few))
calls_since (m ∷ seen) others (suc from) zero low few = absurd (omega (arith, low))
calls_since (m ∷ seen) others (suc from) (suc n) low few =
    ap (λ (k : ℕ). take k (drop from (seen ++ others))) (let e : suc n - suc from ≡ n - from = omega arith in e)
    ∙ calls_since seen others from n (omega (arith, low)) (omega (arith, few))

-- once the calls that it lacked are made on it
pub caught_up : (e : Named) (calls : List Made) (old new : Snapshot) → IsSnapshot e calls old → new.calls ≡ length calls → new.values.items ≡ end e.base.procs (drop old.calls calls) old.values.items
    → e.config.limit ≤ vec_capacity new.room → IsSnapshot e calls new × (new.values.items ≡ end e.base.procs calls e.base.records)
caught_up e calls old new is many made room =
    let procs : List Proc = e.base.procs in
    let now : new.values.items ≡ end procs calls e.base.records =
    made ∙ (ap (end procs (drop old.calls calls)) is.values ∙ end_of_all procs calls e.base.records old.calls) in
    let all : take new.calls calls ≡ calls = take_all new.calls calls (omega (arith, many)) in (
      record {
        few = omega (arith, many);
        values = now ∙ ap (λ (l : List Made). end procs l e.base.records) (sym all);
        room = room;
      },
      now,
    )
