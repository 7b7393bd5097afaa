-- A machine has as many scripts at any time as at its opening.
use Rattle.std.proofs.Common.{◌≡◌, ℕ, refl, ap, ◌∙◌, List, length, slice_get, slice_set, Option, Some, None, Ok, Err, length-set}
use Rattle.vll_core.proofs.Common.{Call, Outcome, rest_of, used, state_after, Move, move, Shown, after, Opening, State}
use Rattle.vll_core.proofs.Changes.{Change, change_of, entered_by}

length-used : (s : State) (client : ℕ) → length (used s client) ≡ length s.scripts
length-used s client = by_script (slice_get s.scripts client)
  where
    by_script : (o : Option (List Call)) → length {A = List Call} (elim o [ None ↦ s.scripts | Some script ↦ slice_set s.scripts client (rest_of script) ]) ≡ length s.scripts
    by_script None = refl
    by_script (Some script) = length-set s.scripts client (rest_of script)

change_stays : (o : Opening) (s : State) (m : Move) (next : State) → Change o s m next → length next.scripts ≡ length s.scripts
change_stays o s m next (entered_by client first call none at is room waits) = length-used s client
change_stays o s m next other = refl

-- a move, also a refused one, leaves the number of scripts
pub scripts_stay : (o : Opening) (s : State) (m : Move) → length (state_after s (move o s m)).scripts ≡ length s.scripts
scripts_stay o s m = by_outcome (move o s m) refl
  where
    by_outcome : (out : Outcome) → move o s m ≡ out → length (state_after s out).scripts ≡ length s.scripts
    by_outcome (Ok seen) is = change_stays o s m seen.1 (change_of o s m seen is)
    by_outcome (Err why) is = refl

-- so does the machine that is shown
pub clients_stay : {H : Type 0} (c next : Shown H) (o : Opening) (m : Move) → next ≡ after c (move o c.state m) → length next.state.scripts ≡ length c.state.scripts
clients_stay {H} c next o m is = ap (λ (x : Shown H). length x.state.scripts) is ∙ scripts_stay o c.state m
