-- A text that is written piece by piece.
use Rattle.std.proofs.Common.{◌≡◌, ◌-◌, ℕ, List, ◌++◌, Option, length, take, drop, sym, ap, ◌∙◌, append_assoc, take-append-drop}
use Rattle.std.specs.Io.KnownBytes.{Appends}
use Rattle.std.proofs.KnownBytes.{Appends-trans}
use Rattle.std.proofs.lemmas.List.{take_rest}

-- the front of a text is written, and the rest is left
pub record HasWritten (old new : Option (List ℕ)) (text rest : List ℕ) : Type 0 where
  pub front : List ℕ
  pub whole : text ≡ front ++ rest
  pub appends : Appends old new front

-- the next piece is written, and the slice behind it is left
pub HasWritten-more : (old mid new : Option (List ℕ)) (text rest : List ℕ) (n : ℕ) → HasWritten old mid text rest → Appends mid new (take n rest) → HasWritten old new text (take (length rest - n) (drop n rest))
HasWritten-more old mid new text rest n before piece = rw take_rest (record {
  front = before.front ++ take n rest;
  whole = before.whole ∙ ap (λ r. before.front ++ r) (sym (take-append-drop n rest)) ∙ sym (append_assoc before.front (take n rest) (drop n rest));
  appends = Appends-trans old mid new before.front (take n rest) before.appends piece;
})
