use Rattle.std.proofs.Common.{◌≡◌, ◌-◌, length, None, Some, refl, ◌∙◌, arith}
use Rattle.json.specs.Json.{read_key, value}
use Rattle.json.proofs.Grammar.{read_key-shorter}
use Rattle.serde_json.specs.Data.{no_members, put}
use Rattle.vll_lines.proofs.Grammar.{member_read, members_over}
use Rattle.vll_lines.proofs.Says.{nothing_told}
use Rattle.vll_lines.proofs.tokens.read_members.Goals as goal

pub members-init : goal.members-init
members-init c = (no_members, length c.args.reader.now, omega arith, refl, nothing_told c.args.args.now.items)

pub members-preserved : goal.members-preserved
members-preserved c =
    let l = c.members in
    let found = l.invariant.0 in
    let n = l.invariant.1 in
    let k = c.in-Some.key.now in
    let s = c.next_key.new.self in
    let r = c.read_member.new.reader in
    let named : read_key l.reader ≡ Some (Some k, s) = grind arith in
    let done = c.in_ok-read_member.ensures in
    let d = done.read.0 in
    let less = read_key-shorter l.reader (Some k) s named in
    let lesser = done.shorter in (
      put k d found,
      n - 1,
      omega (arith, l.invariant.2),
      l.invariant.3 ∙ member_read (value 126) found n k l.reader s r d (omega (arith, l.invariant.2)) named done.read.1,
      done.read.2 found l.invariant.4,
    )

pub returns : goal.returns
returns c =
    let l = c.members in
    let found = l.invariant.0 in
    let over : read_key l.reader ≡ Some (None, c.next_key.new.self) = grind arith in
    (found, l.invariant.3 ∙ members_over (value 126) found l.invariant.1 l.reader c.next_key.new.self l.invariant.2 over, l.invariant.4)
