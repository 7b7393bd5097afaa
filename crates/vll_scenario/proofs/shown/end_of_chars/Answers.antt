use Rattle.std.proofs.Common.{◌++◌, ℕ, List, true, false, take, drop, sym, ap, ◌∙◌, arith, take_all, drop_of_length-le, append-nil}
use Rattle.std.specs.Fmt.{char_count, take_chars}
use Rattle.vll_scenario.proofs.Characters.{char_count-nil, counted, keeps, stops, take_chars-nil}
use Rattle.vll_scenario.proofs.shown.end_of_chars.Goals as goal
use Rattle.vll_scenario.proofs.shown.end_of_chars.Goals.{then-is_char_start+else-left-eq0, else-is_char_start}

pub returns-then-left-eq0-clause-some : goal.returns-then-left-eq0-clause-some
returns-then-left-eq0-clause-some c =
    let text : List ℕ = c.args.text.now in
    let i = c.loop-index.index in
    let within = c.loop-index-test.true in
    let starts = sym c.is_char_start.ensures.starts ∙ c.if-is_char_start.true in
    let more = counted text i within true starts in
    let taken = sym (stops text i within starts) ∙ ap (λ (n : ℕ). take i text ++ take_chars n (drop i text)) (sym c.if-left-eq0.true) ∙ c.loop-index.invariant.0 in
    (taken, omega (arith, more, c.loop-index.invariant.1, c.if-left-eq0.true), (omega (arith, within), λ _ high. c.is_char_start.ensures.byte c.if-is_char_start.true high))

pub loop-index-preserved : goal.loop-index-preserved
loop-index-preserved c =
    let text : List ℕ = c.args.text.now in
    let i = c.loop-index.index in
    let within = c.loop-index-test.true in
    let kept = keeps text i within c.loop-index.left c.if-is_char_start.left in
    let test = sym c.is_char_start.ensures.starts in
    elim c.if-is_char_start.branch [
      | then-is_char_start+else-left-eq0 w ↦
          let starts = test ∙ w.if-is_char_start.true in
          let count = counted text i within true starts in
          (kept true starts (omega (arith, w.left-is, w.if-left-eq0.false)) ∙ c.loop-index.invariant.0, omega (arith, count, w.left-is, w.if-left-eq0.false, c.loop-index.invariant.1))
      | else-is_char_start w ↦
          let starts = test ∙ w.if-is_char_start.false in
          let count = counted text i within false starts in
          (kept false starts (omega (arith, w.left-is)) ∙ c.loop-index.invariant.0, omega (arith, count, w.left-is, c.loop-index.invariant.1))
    ]

pub returns-clause-none : goal.returns-clause-none
returns-clause-none c =
    let text : List ℕ = c.args.text.now in
    let past = c.loop-index-test.false in
    let none = drop_of_length-le text past in
    let count = ap char_count none ∙ char_count-nil in (
      omega (arith, count, c.loop-index.invariant.1),
      sym (rw (take_all c.loop-index.index text past, none, take_chars-nil, append-nil text) at c.loop-index.invariant.0),
    )
