use Rattle.std.proofs.Common.{[], ◌∷◌, ◌∙◌, codes}
use Rattle.json.specs.Token.{begin_object, end_object}
use Rattle.json.specs.Written.{Written}
use Rattle.vll_lines.specs.Answers.{member_tokens}
use Rattle.vll_lines.proofs.Written.{adds_then, more_tokens}
use Rattle.vll_lines.proofs.replying.write_aborted.Goals as goal

pub returns : goal.returns
returns c =
    let old : Written = c.args.writer.now in
    let counts = c.args.counts in
    let code = more_tokens old c.begin_object.new.self c.write_member.new.writer (begin_object ∷ []) (member_tokens (codes "code") counts.code) c.in_ok-begin_object.ensures.ok c.in_ok-write_member.ensures.ok in
    let overflow = more_tokens old c.write_member.new.writer c.write_member-2.new.writer _ (member_tokens (codes "overflow") counts.overflow) code c.in_ok-write_member-2.ensures.ok in
    let underflow = more_tokens old c.write_member-2.new.writer c.write_member-3.new.writer _ (member_tokens (codes "underflow") counts.underflow) overflow c.in_ok-write_member-3.ensures.ok in
    let zero_divisor = more_tokens old c.write_member-3.new.writer c.write_member-4.new.writer _ (member_tokens (codes "zero divisor") counts.zero_divisor) underflow c.in_ok-write_member-4.ensures.ok in
    let moved = more_tokens old c.write_member-4.new.writer c.write_member-5.new.writer _ (member_tokens (codes "moved") counts.moved) zero_divisor c.in_ok-write_member-5.ensures.ok in
    let before =
    c.in_ok-write_member-5.ensures.before ∙ (c.in_ok-write_member-4.ensures.before ∙ (c.in_ok-write_member-3.ensures.before ∙ (c.in_ok-write_member-2.ensures.before ∙ (c.in_ok-write_member.ensures.before ∙ c.in_ok-begin_object.ensures.room.0)))) in
    adds_then c.end_object.result old c.write_member-5.new.writer c.end_object.new.self _ (end_object ∷ []) moved before (record { ok = c.end_object.ensures.ok; before = c.end_object.ensures.room.0 })
