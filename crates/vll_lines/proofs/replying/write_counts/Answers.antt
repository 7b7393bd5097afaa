use Rattle.std.proofs.Common.{[], ◌∷◌, ◌∙◌, codes}
use Rattle.json.specs.Token.{begin_object, end_object, key}
use Rattle.json.specs.Written.{Written}
use Rattle.vll_lines.specs.Answers.{aborted_tokens, member_tokens}
use Rattle.vll_lines.proofs.Written.{adds_then, more_tokens}
use Rattle.vll_lines.proofs.replying.write_counts.Goals as goal

pub returns : goal.returns
returns c =
    let old : Written = c.args.writer.now in
    let counts = c.args.counts in
    let calls = more_tokens old c.begin_object.new.self c.write_member.new.writer (begin_object ∷ []) (member_tokens (codes "calls") counts.calls) c.in_ok-begin_object.ensures.ok c.in_ok-write_member.ensures.ok in
    let named = more_tokens old c.write_member.new.writer c.key.new.self _ (key (codes "aborted") ∷ []) calls c.in_ok-key.ensures.ok in
    let aborted = more_tokens old c.key.new.self c.write_aborted.new.writer _ (aborted_tokens counts) named c.in_ok-write_aborted.ensures.ok in
    let rounds = more_tokens old c.write_aborted.new.writer c.write_member-2.new.writer _ (member_tokens (codes "rounds") c.args.so_far.rounds) aborted c.in_ok-write_member-2.ensures.ok in
    let most = more_tokens old c.write_member-2.new.writer c.write_member-3.new.writer _ (member_tokens (codes "most_lines") c.args.so_far.most_lines) rounds c.in_ok-write_member-3.ensures.ok in
    let before =
    c.in_ok-write_member-3.ensures.before ∙ (c.in_ok-write_member-2.ensures.before ∙ (c.in_ok-write_aborted.ensures.before ∙ (c.in_ok-key.ensures.room.0 ∙ (c.in_ok-write_member.ensures.before ∙ c.in_ok-begin_object.ensures.room.0)))) in
    adds_then c.end_object.result old c.write_member-3.new.writer c.end_object.new.self _ (end_object ∷ []) most before (record { ok = c.end_object.ensures.ok; before = c.end_object.ensures.room.0 })
