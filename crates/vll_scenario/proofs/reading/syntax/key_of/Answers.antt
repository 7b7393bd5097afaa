use Rattle.std.proofs.Common.{arith}
use Rattle.vll_scenario.proofs.Forms.{as_str-string, key_at-other_length, view-three}
use Rattle.vll_scenario.proofs.reading.syntax.key_of.Goals as goal

pub returns-in_ok-word_of-in-3-2 : goal.returns-in_ok-word_of-in-3-2
returns-in_ok-word_of-in-3-2 c =
    rw (
      view-three _ c.in-Array.list _ _ _ c.in-Array.is (omega arith) c.index.ensures c.index-in-3.ensures c.index-in-3-2.ensures,
      as_str-string _ _ c.in_ok-word_of-in-3.ensures.ok,
      as_str-string _ _ c.in_ok-word_of-in-3-2.ensures.ok,
    ) c.declared.ensures

pub returns-in_default-len : goal.returns-in_default-len
returns-in_default-len c = key_at-other_length _ c.in-Array.list c.in-Array.is (λ e. omega arith)
