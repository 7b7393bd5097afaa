-- The names that most proofs of this crate cite, passed on from one place. Declares nothing.
pub use Rattle.std.proofs.Math.Seq.{drop-cons, get_or-append_seam, map-set, map-set_same, take-length, take-suc}
pub use Rattle.std.proofs.lemmas.Bool.{and_from, and_left, and_right, cases_eq, cond-false, cond-true, eq-eqb, eqb-true, false_from_ne_true, false≢true, leb-true, ne_eqb, or_from, or_left, or_parts, or_right, true≢false}
pub use Rattle.std.proofs.lemmas.Bool.Decides.{nat_tests}
pub use Rattle.std.proofs.lemmas.Grind.{common_steps, flat_map-append}
pub use Rattle.std.proofs.lemmas.List.{append-nil, drop_all, get_or-drop, get_or-set_other, get_or-set_same, get_or_append_left, get_or_default, length-map, length-replicate, length-set, map-append, set_split, take-append-drop, take-append-le, take_all, take_more}
pub use Rattle.std.proofs.lemmas.List.Concat.{flat_map-cons}
pub use Rattle.std.proofs.lemmas.List.Elements.{All-filter, All-map, All-nil, All-push, All-set, All-tail, All-weaker, filter-append, filter_agree, filter_passes}
pub use Rattle.std.proofs.lemmas.List.Filters.{FiltersInPlace, FiltersInPlace-more_no, FiltersInPlace-more_set}
pub use Rattle.std.proofs.lemmas.List.Folds.{fold-map, list_any-append, position_or_len_push}
pub use Rattle.std.proofs.lemmas.List.FromFn.{fill_by_all, get_or-enumerate_from, get_or-range_with_len, length-enumerate_from, length-range_with_len}
pub use Rattle.std.proofs.lemmas.List.Sums.{count_by-le-length, count_by_more_yes, fails_before_first, length-filter, passes_at_first, prefix_len-le-length, sum_by-append, sum_by-cons, sum_by-le, sum_by-le-sum_by, sum_by-set, sum_by-take-le, sum_by_push}
pub use Rattle.std.proofs.lemmas.Map.Views.{exact_unsigned_eq}
pub use Rattle.std.proofs.lemmas.Option.{get_or_from_slice_get, none-some, same_Some, slice_get-get_or, slice_get-map, slice_get_cases, slice_get_past, slice_get_read, slice_get_within}
pub use Rattle.std.specs.Global.{Vec}
pub use Rattle.std.specs.List.{All, count_by, enumerate_from, filter, flat_map, list_any, position, position_or_len, range_with_len}
pub use Rattle.std.specs.Option.{IfSome, IsSome, option_copied, option_map, option_map_or}
pub use Rattle.std.specs.Vec.{with_item}
pub use Rattle.vll_check.proofs.Fitting.{ready_well, ready_without}
pub use Rattle.vll_check.specs.Calls.{CallsProcedure, Fits, IsReady}
pub use Rattle.vll_check.specs.Catalog.{IsCatalog}
pub use Rattle.vll_check.specs.Headline.Calls.{source, with_found}
pub use Rattle.vll_check.specs.Headline.Catalog.{Catalog}
pub use Rattle.vll_core.specs.Drain.{IsAtEnd, IsDrained, begins_or_scans, most_events, most_of, most_of_turn}
pub use Rattle.vll_core.specs.Faults.{config_fault, is_up_to, open_fault}
pub use Rattle.vll_core.specs.Headline.State.{Base, catalog_of}
pub use Rattle.vll_core.specs.Laws.{CountersChangeByDeltas, CountersStayWithinTheLimit, EventListsReach, FinishedMachinesHaveTheSerialEnd, FittingScriptsAreProper, FrontTicketIsClear, GoneTicketsStay, LaterCallsLeaveSerialAnswers, LaterCallsLeaveSerialStates, LoadsSeeTheSerialState, OpenTurnsHaveRoom, OtherValuesStay, ReadyCallIsProper, RunningTicketsAreClear, ScanTicketIsClear, SerialStatesStay, StartedTicketsDoNotWait, StoresMakeTheSerialState, TicketsStartOnce, WaitingStaysWithinTheCap}
pub use Rattle.vll_core.specs.Machine.{Outcome, admit, answer_of, answers, enter, find, first_call, front, has_stored, if_running, is_turn_of, keeping, kept_for, next_call, opened, or_refuse, ready, refuse_if, request, rest_of, run, running, scanned, state_after, step, used, waiting, with_entry, with_status}
pub use Rattle.vll_core.specs.Moves.{AreProper, EntersProper, IsLawful, IsProper, IsReached, Leads, Move, begun, by_event, delta_if, entry_release, entry_store, goes, hand, if_waiting, is_on, move, moved, released_by, requested_by, stays, stored_by, turn_request, wake}
pub use Rattle.vll_core.specs.Next.{entry_load}
pub use Rattle.vll_core.specs.Private.Draining.{IsNext, left, steps_left, turn_left}
pub use Rattle.vll_core.specs.Private.Execution.{HoldsFirst, IsAtWork, IsLoading}
pub use Rattle.vll_core.specs.Private.FirstWords.{AreFirstWords}
pub use Rattle.vll_core.specs.Private.MachineKept.{AreAtWork, AreReplied, IsMachine, made_of}
pub use Rattle.vll_core.specs.Private.Paired.{paired, seen}
pub use Rattle.vll_core.specs.Private.QueueKept.{IsKept, kept}
pub use Rattle.vll_core.specs.Private.View.{entered_of, entries_of, left_of, shown, turn_of}
pub use Rattle.vll_core.specs.Private.Window.{HasLeft, IsWindow, entries_at, entry_at, first_left, is_left_at, left_among, numbered}
pub use Rattle.vll_core.specs.Queue.{IsQueued, QueueEntry, Queued, admitted, analysed, changed_at, empty, entry, finished, found_by, front_among, has_reply, is_left, lines, started, started_if, statuses, waiting_ticket}
pub use Rattle.vll_core.specs.Shown.{AreWords, Shown, after, library_of, opening_of}
pub use Rattle.vll_core.specs.State.{Entered, Opening, State, Turn, counter, delta_on, entered, has_aborted, is_aborted, is_clear, made, open_claims, open_of, records_before, reply_at, requested_of, unstored, value, will_store, writes}
pub use Rattle.vll_core.specs.declared.config.Config.{Config}
pub use Rattle.vll_core.specs.declared.config.TheConstants.{MOST_CALLS, MOST_RECORDS, MOST_WAITING}
pub use Rattle.vll_core.specs.declared.event.Event.{Event}
pub use Rattle.vll_core.specs.declared.execution.Execution.{Execution}
pub use Rattle.vll_core.specs.declared.line.Line.{Line}
pub use Rattle.vll_core.specs.declared.machine.Machine.TheInside.{Inside}
pub use Rattle.vll_core.specs.declared.machine.OpenTurn.{OpenTurn}
pub use Rattle.vll_core.specs.declared.queue.window.Window.{Window}
pub use Rattle.vll_core.specs.declared.refusal.Refusal.{Refusal}
pub use Rattle.vll_core.specs.declared.refusal.Refusal.TheVariants.{Busy, Idle, NoCall, NoTurn, NotRunning, OutOfStep, Spent, TurnOpen}
pub use Rattle.vll_core.specs.declared.seen.Seen.{Seen}
pub use Rattle.vll_core.specs.declared.seen.Seen.TheVariants.{Blocked, Claimed, Found, Free, Loaded, Opened, Released, Replied, Run, Stored}
pub use Rattle.vll_proc.proofs.Called.{claims_few, claims_rise}
pub use Rattle.vll_proc.proofs.Kept.{length-applied, slice_index-applied}
pub use Rattle.vll_proc.specs.Cells.{Holds}
pub use Rattle.vll_proc.specs.Headline.Serial.{After, Made, applied, applied_at, apply, before, end}
pub use Rattle.vll_proc.specs.Made.{IsCallOf}
pub use Rattle.vll_proc.specs.WellFormed.{IsWellFormed}
pub use Rattle.vll_proc.specs.declared.call.Call.{Call}
pub use Rattle.vll_proc.specs.declared.call.Reply.{Reply}
pub use Rattle.vll_proc.specs.declared.syntax.Proc.{Proc}
pub use Rattle.vll_record.proofs.Rising.{RisesFrom, RisesFrom-zero}
pub use Rattle.vll_record.specs.Claim.{IsRising, conflict, conflicts, mode_on, stronger_of}
pub use Rattle.vll_record.specs.Counter.{delta_of, is_granted}
pub use Rattle.vll_record.specs.Headline.Claim.{is_write}
pub use Rattle.vll_record.specs.Headline.Counter.{claims_on, pair_word_of}
pub use Rattle.vll_record.specs.Headline.Word.{pair_word_of_record}
pub use Rattle.vll_record.specs.Word.{value_word_of}
pub use Rattle.vll_record.specs.declared.claim.Claim.{Claim}
pub use Rattle.vll_record.specs.declared.claim.Mode.{Mode}
pub use Rattle.vll_record.specs.declared.claim.Mode.TheVariants.{Read, Write}
pub use Rattle.vll_record.specs.declared.claims.TheConstants.{MOST_CLAIMS}
pub use Rattle.vll_sca.proofs.Scanning.{scanned_is_clear, scanned_waits, scanned_within}
pub use Rattle.vll_sca.specs.Headline.Status.{is_waiting}
pub use Rattle.vll_sca.specs.Scan.{scan, scan_numbered}
pub use Rattle.vll_sca.specs.Status.{is_gone, is_running}
pub use Rattle.vll_sca.specs.declared.entry.Entry.{Entry}
pub use Rattle.vll_sca.specs.declared.status.Status.{Status}
pub use Rattle.vll_sca.specs.declared.status.Status.TheVariants.{Gone, Running, Waiting}
