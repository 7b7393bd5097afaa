-- Members that are written alike are the same.
use Rattle.std.proofs.Common.{rules, ◌≡◌, Some, arith, string_bytes}
use Rattle.std.proofs.lemmas.Grind.{common_steps}
use Rattle.serde_json.specs.Find.{get}
use Rattle.serde_json.specs.View.{view}
use Rattle.vll_trace.proofs.Repeated.{same_text}
use Rattle.vll_trace.proofs.tracing.is_alike.Goals as goal

pub returns-in_ok-to_string-in-Some-Some-2 : goal.returns-in_ok-to_string-in-Some-Some-2
returns-in_ok-to_string-in-Some-Some-2 c is =
    let one = c.in-Some-Some.one in
    let other = c.in-Some-Some.other in
    let first : get c.args.name.now (view c.args.one.now) ≡ Some (view one.now) = grind (arith, common_steps) in
    let second : get c.args.name.now (view c.args.other.now) ≡ Some (view other.now) = grind (arith, common_steps) in
    let s = c.in_ok-to_string-in-Some-Some.field-0 in
    let t = c.in_ok-to_string-in-Some-Some-2.field-0 in
    let same : string_bytes s ≡ string_bytes t = search rules in
    same_text c.args.name.now (view c.args.one.now) (view c.args.other.now) (view one.now) (view other.now) (string_bytes s) (string_bytes t) first second c.requires.one c.requires.other
    c.in_ok-to_string-in-Some-Some.ensures.reads_back c.in_ok-to_string-in-Some-Some-2.ensures.reads_back same
