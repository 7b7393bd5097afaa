-- Each list of outputs has one representation in the array.
use Rattle.std.specs.Prelude.{◌≡◌, ℕ, ◌≤◌, List, length, take}
use Rattle.std.proofs.Common.{ap, sym, ◌∙◌}
use Rattle.vll_proc.specs.declared.limits.TheConstants.{MOST_OUTPUTS}
use Rattle.vll_record.specs.Headline.Canon.{laid}
use Rattle.vll_proc.specs.declared.outputs.Outputs.TheInside.{Inside}

abbrev pub kept : Inside → List ℕ
kept c = take c.len c.places

pub record IsCanonical (c : Inside) : Type 0 where
  pub few : c.len ≤ MOST_OUTPUTS
  pub whole : length (kept c) ≡ c.len
  pub filled : c.places ≡ laid MOST_OUTPUTS 0 (kept c)

abbrev pub from_list : List ℕ → Inside
from_list xs = record { places = laid MOST_OUTPUTS 0 xs; len = length xs }

pub from_list-kept : (a : Inside) → IsCanonical a → from_list (kept a) ≡ a
from_list-kept a h =
    let one : from_list (kept a) ≡ record { places = laid MOST_OUTPUTS 0 (kept a); len = a.len } =
    ap (λ (n : ℕ). let i : Inside = record { places = laid MOST_OUTPUTS 0 (kept a); len = n } in i) h.whole in
    let two : ◌≡◌ {A = Inside} (record { places = laid MOST_OUTPUTS 0 (kept a); len = a.len }) a =
    ap (λ (p : List ℕ). let i : Inside = record { places = p; len = a.len } in i) (sym h.filled) in
    one ∙ two
