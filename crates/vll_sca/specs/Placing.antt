-- The places that the hashes of a scenario give to records.
use Rattle.std.specs.Prelude.{ℕ, ◌*◌, ◌/◌, ◌%◌, ◌^◌}
use Rattle.vll_sca.specs.declared.place.Placing.{Placing}
use Rattle.vll_sca.specs.declared.place.Placing.TheVariants.{Modulo, Spread}

-- the record's number; or the upper half of its product with 2^64 over the golden ratio, modulo 2^64
abbrev pub placing : Placing → ℕ → ℕ
placing Modulo r = r
placing Spread r = ((r * 11400714819323198485) % 2 ^ 64) / 2 ^ 32
