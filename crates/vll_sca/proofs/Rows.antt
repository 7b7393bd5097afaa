-- What scans find in some short lists, and some places: worked out by hand, and computed here.
use Rattle.std.proofs.Common.{◌≡◌, ℕ, List, [], ◌∷◌, Some, None, refl}
use Rattle.vll_sca.proofs.Common.{Mode, Read, Write, Entry, Status, Running, Waiting, Gone, scan}
use Rattle.vll_sca.specs.declared.place.Placing.TheVariants.{Modulo, Spread}
use Rattle.vll_sca.specs.Placing.{placing}

-- an entry with one claim
abbrev entry : Status → Mode → ℕ → Entry
entry s m r = record { claims = record { id = r; mode = m } ∷ []; status = s }

abbrev two_writes : List Entry
two_writes = entry Running Write 0 ∷ entry Waiting Write 2 ∷ []

pub collides_in_two_bits : scan (placing Modulo) 2 two_writes ≡ None
collides_in_two_bits = refl

pub apart_in_three_bits : scan (placing Modulo) 3 two_writes ≡ Some 1
apart_in_three_bits = refl

pub reads_hold_none_back : scan (placing Modulo) 1 (entry Running Read 0 ∷ entry Waiting Read 0 ∷ []) ≡ Some 1
reads_hold_none_back = refl

pub waiting_holds_back : scan (placing Modulo) 1 (entry Running Read 0 ∷ entry Waiting Write 0 ∷ entry Waiting Read 0 ∷ []) ≡ None
waiting_holds_back = refl

pub gone_holds_none_back : scan (placing Modulo) 1 (entry Gone Write 0 ∷ entry Waiting Write 0 ∷ []) ≡ Some 1
gone_holds_none_back = refl

pub none_of_none : scan (placing Modulo) 1 [] ≡ None
none_of_none = refl

pub passes_over_who_is_held_back : scan (placing Modulo) 4 (entry Running Write 1 ∷ entry Waiting Read 1 ∷ entry Waiting Read 3 ∷ []) ≡ Some 2
passes_over_who_is_held_back = refl

pub alone_at_the_front : scan (placing Modulo) 4 (entry Waiting Read 1 ∷ []) ≡ Some 0
alone_at_the_front = refl

pub write_behind_another_read : scan (placing Modulo) 4 (entry Running Read 2 ∷ entry Waiting Write 3 ∷ []) ≡ Some 1
write_behind_another_read = refl

pub lower_write_behind_another_read : scan (placing Modulo) 4 (entry Running Read 3 ∷ entry Waiting Write 2 ∷ []) ≡ Some 1
lower_write_behind_another_read = refl

pub spread_of_0 : placing Spread 0 ≡ 0
spread_of_0 = refl

pub spread_of_1 : placing Spread 1 ≡ 2654435769
spread_of_1 = refl

pub spread_of_2 : placing Spread 2 ≡ 1013904242
spread_of_2 = refl
