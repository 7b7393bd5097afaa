-- A scenario with the options of its engine.
use Rattle.std.specs.Prelude.{unwrap_or}
use Rattle.vll_scenario.specs.Headline.Setup.{Setup}
use Rattle.vll_scenario.specs.declared.engine_options.EngineOptions.{EngineOptions}

-- the scenario with the cap and the number of bits that the options give, and the same in all else
abbrev pub with_options : EngineOptions → Setup → Setup
with_options o s = record s {
  config = record s.config {
    cap = unwrap_or o.cap s.config.cap;
    bits = unwrap_or o.bits s.config.bits;
  };
}
