-- What requests and releases do to a pair word, CX * 2^32 + CS, and which requests it grants.
use Rattle.std.specs.Prelude.{ℕ, ◌+◌, ◌*◌, ◌/◌, ◌%◌, ◌^◌, Bool, ◌==◌, nat_lt}
use Rattle.vll_record.specs.declared.claim.Mode.{Mode}
use Rattle.vll_record.specs.declared.claim.Mode.TheVariants.{Read, Write}
use Rattle.vll_record.specs.declared.pair.Pair.{Pair}

-- what a request adds to a pair word and a release subtracts: 2^32 for Write, 1 for Read
abbrev pub delta_of : Mode → ℕ
delta_of Read = 1
delta_of Write = 2 ^ 32

-- the pair that a word holds: CS in the low 32 bits, CX above them
abbrev pub pair_of : ℕ → Pair
pair_of word = record { cx = word / 2 ^ 32; cs = word % 2 ^ 32 }

-- the word that holds a pair
abbrev pub word_of : Pair → ℕ
word_of p = p.cx * 2 ^ 32 + p.cs

-- whether a request is granted, given the word it found: an exclusive one if that was 0, a shared one if its CX was 0
abbrev pub is_granted : Mode → ℕ → Bool
is_granted Read old = nat_lt old (2 ^ 32)
is_granted Write old = old == 0
