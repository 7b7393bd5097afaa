-- What some turns take of a limit that they share.
use Rattle.std.proofs.Common.{◌≡◌, ℕ, ◌+◌, ◌-◌, ◌*◌, ◌/◌, ◌<◌, ◌≤◌, arith}
use Rattle.std.proofs.Math.Nat.{div-mul-le_self, div-lt_iff_lt-mul}

-- what one turn leaves of its share tells what all turns take of the limit
pub shares-enough : (limit turns share left one : ℕ) → share ≡ limit / turns → left + one ≡ share → limit - turns * (share - left) + turns * one ≡ limit
shares-enough limit turns share left one is whole =
    let taken : share - left ≡ one = omega arith in
    let within : (left + one) * turns ≤ limit = rw (whole, is) (div-mul-le_self limit turns) in
    rw taken (omega arith)

-- where one turn takes more than its share, all turns take more than the limit
pub shares-over : (limit turns share one : ℕ) → 0 < turns → share ≡ limit / turns → share < one → limit < turns * one
shares-over limit turns share one some is over =
    let past : limit / turns < one = omega arith in
    let all = (div-lt_iff_lt-mul {k = turns} {x = limit} {y = one} some).0 past in
    omega arith
