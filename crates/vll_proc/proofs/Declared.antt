-- A well-formed body ends alike on two scenes that its declarations cannot tell apart.
use Rattle.std.proofs.Common.{◌≡◌, ℕ, zero, suc, false, length, map, replicate, get_or, Result, Ok, Err, refl, sym, ◌∙◌}
use Rattle.vll_proc.proofs.Common.{false≢true, MOST_LOCALS, Reason, Proc, Scene, effect, in_turn, IsWellFormed, Locals, nothing_set, body_set_behind}
use Rattle.vll_proc.specs.Undeclared.{AgreeOnDeclared, EndsAlike}
use Rattle.vll_proc.proofs.Alike.{Bridge, IsAlike, EndAlike, alike_in_turn}

-- both sides have the same records, and each number stands for itself
abbrev same_bridge : Proc → Bridge
same_bridge p = record {
  keys = length p.keys;
  args = p.args;
  stands_for = λ i r. i ≡ r;
  same = λ m n. m ≡ n;
  read = λ m n i r same is. rw (same, is) refl;
  store = λ m n i r v same is. rw (same, is) refl;
}

none_set : (n i : ℕ) → get_or (replicate n false) i false ≡ false
none_set zero i = refl
none_set (suc n) zero = refl
none_set (suc n) (suc i) = none_set n i

seen_alike : (p : Proc) (set : Locals) (r q : Result Scene Reason) → EndAlike (same_bridge p) set r q → EndsAlike r q
seen_alike p set (Ok s) (Ok t) h = (h.values, h.outputs)
seen_alike p set (Err why) (Err reason) h = h
seen_alike p set (Ok s) (Err why) h = absurd h
seen_alike p set (Err why) (Ok t) h = absurd h

pub meets_nothing : (p : Proc) (s t : Scene) → IsWellFormed p → AgreeOnDeclared p s t → EndsAlike (in_turn (map effect p.body) s) (in_turn (map effect p.body) t)
meets_nothing p s t formed agree =
    let alike : IsAlike (same_bridge p) nothing_set s t = record {
      args = agree.args;
      named = agree.named;
      locals = λ i is. absurd (false≢true (sym (none_set MOST_LOCALS i) ∙ is));
      as_many = agree.as_many_locals;
      values = agree.records;
      outputs = agree.outputs;
    } in
    seen_alike p (body_set_behind p.body nothing_set) (in_turn (map effect p.body) s) (in_turn (map effect p.body) t)
    (alike_in_turn (same_bridge p) nothing_set p.body s t alike (formed.known_keys, formed.known_args, formed.set_locals))
