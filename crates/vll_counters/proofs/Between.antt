-- The laws of the rule.
use Rattle.std.proofs.Common.{sym, ap, ◌∙◌, refl, Some}
use Rattle.vll_counters.proofs.Common.{option_map, Entered, entered, is_clear, running_not_waiting, clear_reached, if_running, widest, pass_for, PassView, Pass, TicketsAreClear, PassesAreClear, RunningTicketsHaveAPass, PassesAreOfRunningTickets, TicketsHaveOnePass, ClientsHaveOneSession, PastsAreOfOneRun, OnePastBeginsTheOther, LongerPastHasBoth, nat_lt, length}
use Rattle.std.proofs.Common.{Option, Bool, None, if◌then◌else◌}
use Rattle.vll_counters.proofs.Pasts.{ordered}
use Rattle.vll_counters.proofs.States.{pass_is}

pub clear : TicketsAreClear
clear base m rule t e at busy = clear_reached (widest base) rule.state t e rule.shows.reached at busy

pub clear_pass : PassesAreClear
clear_pass base p now =
    let s = now.rule.state in
    let o = pass_is base s p.ticket p (now.rule.passes.each now.seat (Pass p) p now.at refl).1 in
    ap (λ (q : PassView). is_clear s p.ticket q.call.claims) o.is
    ∙ clear base now.moment now.rule p.ticket o.entry o.at (running_not_waiting o.entry.status o.runs)

pub has_pass : RunningTicketsHaveAPass
has_pass base m rule t e at runs =
    let s = rule.state in
    let p = pass_for base (entered s) t e in
    let there = rule.passes.all t p
    (ap (λ (x : Option Entered). option_map (pass_for base (entered s) t) (if_running x)) at ∙ ap (λ (b : Bool). option_map (pass_for base (entered s) t) (if b then Some e else None)) runs) in
    (rule.pass_seat t, there.0, p, there.1, there.2, refl)

pub of_running : PassesAreOfRunningTickets
of_running base m rule seat v p at has = let o = pass_is base rule.state p.ticket p (rule.passes.each seat v p at has).1 in (o.entry, o.at, o.runs)

pub one_pass : TicketsHaveOnePass
one_pass base m rule i j v w p q at has there own same = sym (rule.passes.each i v p at has).0 ∙ ap rule.pass_seat same ∙ (rule.passes.each j w q there own).0

pub one_session : ClientsHaveOneSession
one_session base m rule i j v w g h at has there own same = sym (rule.sessions i v g at has).there ∙ ap rule.session_seat same ∙ (rule.sessions j w h there own).there

pub one_run : PastsAreOfOneRun
one_run base m rule = (rule.history.all, rule.history.words, rule.history.pasts)

pub one_begins : OnePastBeginsTheOther
one_begins base m i j v w rule at there =
    (ordered v.past w.past rule.history.all (nat_lt (length v.past) (length w.past)) refl (rule.history.pasts i v at) (rule.history.pasts j w there)).0

pub longer_has_both : LongerPastHasBoth
longer_has_both base m i j v w rule at there =
    (ordered v.past w.past rule.history.all (nat_lt (length v.past) (length w.past)) refl (rule.history.pasts i v at) (rule.history.pasts j w there)).1
