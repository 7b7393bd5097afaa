-- The procedure is built as in `Rows`, whatever its name.
use Rattle.std.proofs.Common.{◌≡◌, rules}
use Rattle.vll_proc.proofs.Rows.{bump_keys, bump_body, bump_is_well_formed}
use Rattle.vll_language_tests.proofs.frame.bump.Goals as goal

pub returns-clause-formed : goal.returns-clause-formed
returns-clause-formed c =
    let keys : c.in_ok-keys.keys ≡ bump_keys = search rules in
    let body : c.from_vec.result ≡ bump_body = search rules in
    rw (keys, body) (bump_is_well_formed c.new.result)
