use Rattle.std.proofs.Common.{IfOk, OnOk, refl, arith, subst, sym, string_bytes}
use Rattle.std.specs.Io.KnownBytes.{Appends}
use Rattle.std.proofs.lemmas.Grind.{common_steps}
use Rattle.std.proofs.lemmas.Result.{on_ok_weaker}
use Rattle.vll_scenario.specs.Streams.{AppendsBeginning}
use Rattle.vll_scenario.specs.Reading.{IsRead}
use Rattle.vll_scenario.proofs.Results.{ok_before}
use Rattle.vll_replay.specs.Replay.{text_of_setup}
use Rattle.vll_draw.specs.OneByOne.{with_schedule}
use Rattle.vll_draw.specs.Page.{Lists}
use Rattle.vll_draw.proofs.drawing.draw.Goals as goal

pub returns-clause-ok : goal.returns-clause-ok
returns-clause-ok g c =
    let setup = c.in_ok-scenario.scenario in
    let was = ok_before c.read_scenario.result c.map_err.result _ setup c.map_err.ensures.cases c.map_err.ensures.variant c.in_ok-scenario.was in
    let read = subst (IsRead (g.S.Source.remaining c.args.reader.now) (g.S.Source.remaining c.read_scenario.new.reader)) was (c.read_scenario.ensures.answer, c.read_scenario.ensures.told) in
    let made = ok_before c.page_of.result c.map_err-2.result _ c.in_ok-page.page c.map_err-2.ensures.cases c.map_err-2.ensures.variant c.in_ok-page.was in
    let listed = subst (λ r. IfOk r (λ page. Lists (string_bytes page) (text_of_setup (with_schedule setup)))) made c.page_of.ensures in
    let lists = subst (λ bytes. Lists bytes (text_of_setup (with_schedule setup))) (sym c.as_bytes.ensures.value) listed in
    let written : OnOk c.map_err-3.result (Appends (g.W.Sink.contents c.args.writer.now) (g.W.Sink.contents c.write_text.new.writer) c.as_bytes.result.now) = grind (arith, common_steps) in
    on_ok_weaker c.map_err-3.result (λ w. (setup, read, (c.as_bytes.result.now, lists, w))) written

pub returns-clause-write : goal.returns-clause-write
returns-clause-write g c failed =
    let setup = c.in_ok-scenario.scenario in
    let was = ok_before c.read_scenario.result c.map_err.result _ setup c.map_err.ensures.cases c.map_err.ensures.variant c.in_ok-scenario.was in
    let read = subst (IsRead (g.S.Source.remaining c.args.reader.now) (g.S.Source.remaining c.read_scenario.new.reader)) was (c.read_scenario.ensures.answer, c.read_scenario.ensures.told) in
    let made = ok_before c.page_of.result c.map_err-2.result _ c.in_ok-page.page c.map_err-2.ensures.cases c.map_err-2.ensures.variant c.in_ok-page.was in
    let listed = subst (λ r. IfOk r (λ page. Lists (string_bytes page) (text_of_setup (with_schedule setup)))) made c.page_of.ensures in
    let lists = subst (λ bytes. Lists bytes (text_of_setup (with_schedule setup))) (sym c.as_bytes.ensures.value) listed in
    let written : AppendsBeginning (g.W.Sink.contents c.args.writer.now) (g.W.Sink.contents c.write_text.new.writer) c.as_bytes.result.now = grind (arith, common_steps) in
    (setup, read, (c.as_bytes.result.now, lists, written))

pub returns-in_err-page-clause-no_memory : goal.returns-in_err-page-clause-no_memory
returns-in_err-page-clause-no_memory g c refused =
    let setup = c.in_ok-scenario.scenario in
    let was = ok_before c.read_scenario.result c.map_err.result _ setup c.map_err.ensures.cases c.map_err.ensures.variant c.in_ok-scenario.was in
    let read = subst (IsRead (g.S.Source.remaining c.args.reader.now) (g.S.Source.remaining c.read_scenario.new.reader)) was (c.read_scenario.ensures.answer, c.read_scenario.ensures.told) in
    (setup, read, refl)
