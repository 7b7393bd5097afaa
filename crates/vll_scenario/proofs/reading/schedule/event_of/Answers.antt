use Rattle.std.proofs.Common.{arith}
use Rattle.vll_scenario.proofs.Forms.{as_str-string, event_at-other_length, view-one, view-two}
use Rattle.vll_scenario.proofs.reading.schedule.event_of.Goals as goal

pub returns-in_ok-word_of-in-1 : goal.returns-in_ok-word_of-in-1
returns-in_ok-word_of-in-1 c =
    rw (
      view-one _ c.in-Array.list _ c.in-Array.is (omega arith) c.index.ensures,
      as_str-string _ _ c.in_ok-word_of-in-1.ensures.ok,
    ) c.event_alone.ensures

pub returns-in_ok-word_of-in-2 : goal.returns-in_ok-word_of-in-2
returns-in_ok-word_of-in-2 c =
    rw (
      view-two _ c.in-Array.list _ _ c.in-Array.is (omega arith) c.index-in-2.ensures c.index-in-2-2.ensures,
      as_str-string _ _ c.in_ok-word_of-in-2.ensures.ok,
    ) c.event_with.ensures

pub returns-in_default-len : goal.returns-in_default-len
returns-in_default-len c = event_at-other_length _ c.in-Array.list c.in-Array.is (λ e. omega arith) (λ e. omega arith)
