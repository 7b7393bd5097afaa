-- The names that most proofs of this crate cite, passed on from one place. Declares nothing.
pub use Rattle.atomic_table.proofs.Lists.{at_last, at_longer, at_map, at_set, at_snoc, set_else, set_here}
pub use Rattle.atomic_table.specs.Seated.{TableId}
pub use Rattle.atomic_table.specs.Table.{Allows, Final, Joins, Me, Splits, carried_after, keeps, opening, step}
pub use Rattle.std.proofs.lemmas.Bool.{cases_eq, cond-false, ne_eqb}
pub use Rattle.std.proofs.lemmas.Bool.Decides.{nat_tests}
pub use Rattle.std.proofs.lemmas.List.{append-nil, length-map, length-set, map-append, map-set, set-get_or, set-set, take-append-le, take_all}
pub use Rattle.std.proofs.lemmas.Map.Views.{exact_unsigned_eq}
pub use Rattle.std.proofs.lemmas.Option.{same_Some, slice_get-map, slice_get_within}
pub use Rattle.std.specs.List.{enumerate_from, flat_map, fold, list_any}
pub use Rattle.std.specs.Mem.Slots.{slots_items, slots_len}
pub use Rattle.std.specs.Option.{option_map}
pub use Rattle.std.specs.Prelude.{Bool, false, filter, if◌then◌else◌, length, map, nat_lt, slice_get, slice_set, true, ◌==◌}
pub use Rattle.vll_core.proofs.Changes.{Change, change_of, entry_runs, fronted, picked, woken}
pub use Rattle.vll_core.proofs.Claiming.{after_request, counter_asked, counter_fits, delta_elsewhere, delta_here, request_reached, words_asked}
pub use Rattle.vll_core.proofs.Deltas.{counter_release, word_on, word_on-append}
pub use Rattle.vll_core.proofs.Events.{running_not_waiting}
pub use Rattle.vll_core.proofs.FirstWords.{first_words, laid, laid_more}
pub use Rattle.vll_core.proofs.Places.{at_push, drop_none, entry_at, get_pushed, get_set, get_set_other, take_next}
pub use Rattle.vll_core.proofs.Reached.{clear_reached, kept_reached, load_reached}
pub use Rattle.vll_core.proofs.SerialRun.{before_more, made_at, map_push, map_set}
pub use Rattle.vll_core.proofs.Tests.{at_least, both_true, eq_same, not_yes, or_rest}
pub use Rattle.vll_core.proofs.WordsKept.{counters_stay, words_stay}
pub use Rattle.vll_core.specs.Headline.State.{Base, catalog_of}
pub use Rattle.vll_core.specs.Machine.{Outcome, admit, enter, has_stored, if_running, opened, or_refuse, refuse_if, running, waiting, with_entry, with_status}
pub use Rattle.vll_core.specs.Moves.{IsLawful, IsProper, IsReached, Move, begun, by_event, entry_store, hand, if_waiting, is_on, move, moved, wake}
pub use Rattle.vll_core.specs.Shown.{AreWords}
pub use Rattle.vll_core.specs.State.{Entered, Opening, State, Turn, counter, entered, has_aborted, is_aborted, is_clear, made, open_claims, open_of, records_before, reply_at, requested_of, unstored, value, will_store, writes}
pub use Rattle.vll_core.specs.declared.line.Line.{Line}
pub use Rattle.vll_core.specs.declared.seen.Seen.{Seen}
pub use Rattle.vll_counters.specs.Headline.Views.{Begins, calls_by, calls_in, pass_in}
pub use Rattle.vll_counters.specs.History.{Found, Requested, RuleWithHistory, Stays, first_seat, plain, seat_view, spent_seat, with_view, with_views, without_pasts}
pub use Rattle.vll_counters.specs.Laid.{AreLaid, laid_words, record_words}
pub use Rattle.vll_counters.specs.Laws.{ClientsHaveOneSession, GivenTicketsRun, LongerPastHasBoth, OnePastBeginsTheOther, PairWordsCountOpenClaims, PassesAreClear, PassesAreOfRunningTickets, PastsAreOfOneRun, RunningTicketsHaveAPass, TicketsAreClear, TicketsGetOnePass, TicketsHaveOnePass}
pub use Rattle.vll_counters.specs.News.{HearTells, NewsShown, as_it_is, calls_of_view, news_told, with_news}
pub use Rattle.vll_counters.specs.Rule.{AreNews, ArePasses, AreSessions, HasSeen, IsHosted, IsSession, Moment, Rule, Shows, pass_for, pass_of, turn_view, values_before, widest}
pub use Rattle.vll_counters.specs.Shown.{AreNewSessions, PassShown, QueueShown, SessionShown, WordsShown, base_of, next_claim, no_claim, pass_of_view, queue_in, queue_view, record_of, session_of, settled, shown_queue}
pub use Rattle.vll_counters.specs.Steps.{admitted, answered, asked, ended, finished, finished_by, first_queue, first_view, joined, leaving, loaded, more_clients, new_line, new_pass, new_session, new_status, pass_at, pass_given, pass_kept, pass_made, records_before_pass, released, reply_of_pass, requested, session_given, session_kept, session_left, session_made, spent, stored, told, turn_ended, turn_of}
pub use Rattle.vll_counters.specs.Told.{AreReplied, AtQueue, EndTells, FindDoes, FindTells, IsAtEnd, IsCountedNow, IsCounterNow, IsGivenOut, KnowsPass, KnowsSession, LoadTells, MayLeave, MayRun, MayStart, OpenTells, PassMoment, ReleaseDoes, ReleaseTells, RequestDoes, RequestTells, StoreTells, WasThere, has_stored_pass, is_claimed_by}
pub use Rattle.vll_counters.specs.Views.{news_in, session_in}
pub use Rattle.vll_counters.specs.Written.{IsOfItsLoad, IsOfItsStep, IsPastOf, LeadsTo, Write, longer, written}
pub use Rattle.vll_counters.specs.declared.views.PassView.{PassView}
pub use Rattle.vll_counters.specs.declared.views.QueueView.{QueueView}
pub use Rattle.vll_counters.specs.declared.views.SeatView.{SeatView}
pub use Rattle.vll_counters.specs.declared.views.SessionView.{SessionView}
pub use Rattle.vll_counters.specs.declared.views.TurnView.{TurnView}
pub use Rattle.vll_counters.specs.declared.views.View.{View}
pub use Rattle.vll_counters.specs.declared.views.View.TheVariants.{Hearing, News, Pass, Queue, Session, Spent}
pub use Rattle.vll_proc.specs.Headline.Serial.{Made, answer, apply, before, end}
pub use Rattle.vll_proc.specs.declared.call.Call.{Call}
pub use Rattle.vll_record.specs.Claim.{conflict}
pub use Rattle.vll_record.specs.Counter.{delta_of, is_granted}
pub use Rattle.vll_record.specs.Headline.Word.{pair_word_of_record}
pub use Rattle.vll_record.specs.Word.{value_word_of}
pub use Rattle.vll_record.specs.declared.claim.Claim.{Claim}
pub use Rattle.vll_sca.specs.Headline.Status.{is_waiting}
pub use Rattle.vll_sca.specs.Status.{is_gone, is_running}
pub use Rattle.vll_sca.specs.declared.status.Status.{Status}
pub use Rattle.vll_sca.specs.declared.status.Status.TheVariants.{Gone, Running, Waiting}
