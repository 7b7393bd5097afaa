-- Worked lists of events: what each is answered, and the words at the end.
use Rattle.std.proofs.Common.{◌≡◌, ℕ, List, [], ◌∷◌, map, refl, Result, Ok, Err, true, false}
use Rattle.vll_core.proofs.Common.{Event, Seen, Found, Opened, Claimed, Free, Blocked, Run, Loaded, Stored, Released, Replied, Refusal, TurnOpen, NoTurn, NoCall, Spent, Busy, NotRunning, OutOfStep, Idle, Status, Running, Waiting, Gone, State, Opening, Entered, counter, value, answers, opened, run, state_after, answer_of, Move, by_event, hand, move}
use Rattle.vll_proc.specs.declared.call.Reason.TheVariants.{Moved}
use Rattle.vll_proc.specs.declared.call.Reply.TheVariants.{Committed, Aborted}
use Rattle.vll_proc.specs.declared.syntax.Expr.TheBlock.{hidden-the_row-Expr-0}
use Rattle.vll_proc.specs.declared.syntax.Stmt.TheBlock.{hidden-the_row-Stmt-0}
use denote.Hole.Carrier.{hidden}
use Rattle.vll_core.specs.declared.event.Event.TheVariants as ev
use Rattle.vll_core.proofs.Procedures.{opening, bump_call, read_call, transfer_call, seven_call, via_call}

-- the statuses at the end of a list of events
abbrev statuses : Opening → State → List Event → List Status
statuses o s es = map (λ (e : Entered). e.status) (run o s es).entries

-- the value and the pair word of a record at the end of a list of events
abbrev word_pair : Opening → State → List Event → ℕ → ℕ × ℕ
word_pair o s es r = let end = run o s es in (value o.base end r, counter end r)

-- two bumps of one record: the second is blocked until the first is done
abbrev one_record_two_bumps : List Event
one_record_two_bumps =
    ev.Enter 0 ∷ ev.Claim ∷ ev.Admit ∷ ev.Enter 0 ∷ ev.Claim ∷ ev.Admit ∷ ev.Front ∷ ev.Load 0 ∷ ev.Store 0 ∷ ev.Release 0 ∷ ev.Finish 0
    ∷ ev.Front ∷ ev.Load 1 ∷ ev.Store 1 ∷ ev.Release 1 ∷ ev.Finish 1 ∷ []

blocked_bump_runs_after_the_first : (answers (opening (0 ∷ []) 2) (opened ((bump_call 0 ∷ bump_call 0 ∷ []) ∷ [])) one_record_two_bumps
    ≡ Ok Opened ∷ Ok (Claimed 0 true) ∷ Ok (Free 0) ∷ Ok Opened ∷ Ok (Claimed 4294967296 false) ∷ Ok (Blocked 1) ∷ Err Idle
    ∷ Ok (Loaded 0) ∷ Ok Stored ∷ Ok (Released 8589934592) ∷ Ok (Replied (Committed (1 ∷ [])))
    ∷ Ok (Run 1) ∷ Ok (Loaded 1) ∷ Ok Stored ∷ Ok (Released 4294967296) ∷ Ok (Replied (Committed (2 ∷ []))) ∷ [])
    × (word_pair (opening (0 ∷ []) 2) (opened ((bump_call 0 ∷ bump_call 0 ∷ []) ∷ [])) one_record_two_bumps 0 ≡ (2, 0))
unfolding hidden hidden-the_row-Expr-0 hidden-the_row-Stmt-0
blocked_bump_runs_after_the_first = (refl, refl)

-- a transfer that has stored and released its first record lets another client's call on that record in
abbrev transfer_and_two_bumps : State
transfer_and_two_bumps = opened ((transfer_call 0 1 5 ∷ []) ∷ (bump_call 0 ∷ bump_call 1 ∷ []) ∷ [])

abbrev half_released_events : List Event
half_released_events =
    ev.Enter 0 ∷ ev.Claim ∷ ev.Claim ∷ ev.Admit ∷ ev.Load 0 ∷ ev.Load 0 ∷ ev.Store 0 ∷ ev.Store 0 ∷ ev.Release 0
    ∷ ev.Enter 1 ∷ ev.Claim ∷ ev.Admit ∷ ev.Enter 1 ∷ ev.Claim ∷ ev.Admit ∷ ev.Front ∷ ev.Scan ∷ []

released_record_is_free : (answers (opening (10 ∷ 20 ∷ []) 3) transfer_and_two_bumps half_released_events
    ≡ Ok Opened ∷ Ok (Claimed 0 true) ∷ Ok (Claimed 0 true) ∷ Ok (Free 0) ∷ Ok (Loaded 10) ∷ Ok (Loaded 20) ∷ Ok Stored ∷ Ok Stored ∷ Ok (Released 4294967296)
    ∷ Ok Opened ∷ Ok (Claimed 0 true) ∷ Ok (Free 1) ∷ Ok Opened ∷ Ok (Claimed 4294967296 false) ∷ Ok (Blocked 2) ∷ Err Idle ∷ Err Idle ∷ [])
    × (word_pair (opening (10 ∷ 20 ∷ []) 3) transfer_and_two_bumps half_released_events 0 ≡ (5, 4294967296))
    × (word_pair (opening (10 ∷ 20 ∷ []) 3) transfer_and_two_bumps half_released_events 1 ≡ (25, 8589934592))
    × (statuses (opening (10 ∷ 20 ∷ []) 3) transfer_and_two_bumps half_released_events ≡ Running ∷ Running ∷ Waiting ∷ [])
unfolding hidden hidden-the_row-Expr-0 hidden-the_row-Stmt-0
released_record_is_free = (refl, refl, refl, refl)

-- a blocked call's claims, granted or denied, hold back a later call
abbrev bump_transfer_bump : State
bump_transfer_bump = opened ((bump_call 0 ∷ transfer_call 0 1 0 ∷ bump_call 1 ∷ []) ∷ [])

abbrev blocked_chain : List Event
blocked_chain =
    ev.Enter 0 ∷ ev.Claim ∷ ev.Admit ∷ ev.Enter 0 ∷ ev.Claim ∷ ev.Claim ∷ ev.Admit ∷ ev.Enter 0 ∷ ev.Claim ∷ ev.Admit ∷ ev.Front ∷ ev.Scan ∷ []

blocked_call_keeps_its_claims : (answers (opening (0 ∷ 0 ∷ []) 3) bump_transfer_bump blocked_chain
    ≡ Ok Opened ∷ Ok (Claimed 0 true) ∷ Ok (Free 0) ∷ Ok Opened ∷ Ok (Claimed 4294967296 false) ∷ Ok (Claimed 0 true) ∷ Ok (Blocked 1)
    ∷ Ok Opened ∷ Ok (Claimed 4294967296 false) ∷ Ok (Blocked 2) ∷ Err Idle ∷ Err Idle ∷ [])
    × (word_pair (opening (0 ∷ 0 ∷ []) 3) bump_transfer_bump blocked_chain 0 ≡ (0, 8589934592))
    × (word_pair (opening (0 ∷ 0 ∷ []) 3) bump_transfer_bump blocked_chain 1 ≡ (0, 8589934592))
    × (statuses (opening (0 ∷ 0 ∷ []) 3) bump_transfer_bump blocked_chain ≡ Running ∷ Waiting ∷ Waiting ∷ [])
unfolding hidden hidden-the_row-Expr-0 hidden-the_row-Stmt-0
blocked_call_keeps_its_claims = (refl, refl, refl, refl)

-- two calls are blocked, and what blocked the second is gone: the front does not wait, and the scan passes over the first of the two
abbrev two_pairs_of_bumps : State
two_pairs_of_bumps = opened ((bump_call 0 ∷ bump_call 1 ∷ bump_call 0 ∷ bump_call 1 ∷ []) ∷ [])

abbrev scan_behind_a_blocked_call : List Event
scan_behind_a_blocked_call =
    ev.Enter 0 ∷ ev.Claim ∷ ev.Admit ∷ ev.Enter 0 ∷ ev.Claim ∷ ev.Admit ∷ ev.Enter 0 ∷ ev.Claim ∷ ev.Admit ∷ ev.Enter 0 ∷ ev.Claim ∷ ev.Admit
    ∷ ev.Load 1 ∷ ev.Store 1 ∷ ev.Release 1 ∷ ev.Finish 1 ∷ ev.Front ∷ ev.Scan ∷ []

scan_finds_an_unhindered_call : (answers (opening (0 ∷ 0 ∷ []) 4) two_pairs_of_bumps scan_behind_a_blocked_call
    ≡ Ok Opened ∷ Ok (Claimed 0 true) ∷ Ok (Free 0) ∷ Ok Opened ∷ Ok (Claimed 0 true) ∷ Ok (Free 1)
    ∷ Ok Opened ∷ Ok (Claimed 4294967296 false) ∷ Ok (Blocked 2) ∷ Ok Opened ∷ Ok (Claimed 4294967296 false) ∷ Ok (Blocked 3)
    ∷ Ok (Loaded 0) ∷ Ok Stored ∷ Ok (Released 8589934592) ∷ Ok (Replied (Committed (1 ∷ []))) ∷ Err Idle ∷ Ok (Run 3) ∷ [])
    × (word_pair (opening (0 ∷ 0 ∷ []) 4) two_pairs_of_bumps scan_behind_a_blocked_call 0 ≡ (0, 8589934592))
    × (word_pair (opening (0 ∷ 0 ∷ []) 4) two_pairs_of_bumps scan_behind_a_blocked_call 1 ≡ (1, 4294967296))
    × (statuses (opening (0 ∷ 0 ∷ []) 4) two_pairs_of_bumps scan_behind_a_blocked_call ≡ Running ∷ Gone ∷ Waiting ∷ Running ∷ [])
unfolding hidden hidden-the_row-Expr-0 hidden-the_row-Stmt-0
scan_finds_an_unhindered_call = (refl, refl, refl, refl)

-- with one bit all records share a place, so the running call holds back every waiting one
abbrev one_bit : Opening
one_bit = record (opening (0 ∷ 0 ∷ []) 4) { bits = 1 }

one_bit_holds_the_scan_back : (answers one_bit two_pairs_of_bumps scan_behind_a_blocked_call
    ≡ Ok Opened ∷ Ok (Claimed 0 true) ∷ Ok (Free 0) ∷ Ok Opened ∷ Ok (Claimed 0 true) ∷ Ok (Free 1)
    ∷ Ok Opened ∷ Ok (Claimed 4294967296 false) ∷ Ok (Blocked 2) ∷ Ok Opened ∷ Ok (Claimed 4294967296 false) ∷ Ok (Blocked 3)
    ∷ Ok (Loaded 0) ∷ Ok Stored ∷ Ok (Released 8589934592) ∷ Ok (Replied (Committed (1 ∷ []))) ∷ Err Idle ∷ Err Idle ∷ [])
    × (statuses one_bit two_pairs_of_bumps scan_behind_a_blocked_call ≡ Running ∷ Gone ∷ Waiting ∷ Waiting ∷ [])
unfolding hidden hidden-the_row-Expr-0 hidden-the_row-Stmt-0
one_bit_holds_the_scan_back = (refl, refl)

-- with a cap of one and a call that waits, no turn opens
abbrev one_waits : Opening
one_waits = record (opening (0 ∷ []) 3) { cap = 1 }

abbrev three_bumps : State
three_bumps = opened ((bump_call 0 ∷ bump_call 0 ∷ bump_call 0 ∷ []) ∷ [])

abbrev three_enters : List Event
three_enters = ev.Enter 0 ∷ ev.Claim ∷ ev.Admit ∷ ev.Enter 0 ∷ ev.Claim ∷ ev.Admit ∷ ev.Enter 0 ∷ []

cap_of_one_is_busy : (answers one_waits three_bumps three_enters
    ≡ Ok Opened ∷ Ok (Claimed 0 true) ∷ Ok (Free 0) ∷ Ok Opened ∷ Ok (Claimed 4294967296 false) ∷ Ok (Blocked 1) ∷ Err Busy ∷ [])
    × (word_pair one_waits three_bumps three_enters 0 ≡ (0, 8589934592))
    × (statuses one_waits three_bumps three_enters ≡ Running ∷ Waiting ∷ [])
unfolding hidden hidden-the_row-Expr-0 hidden-the_row-Stmt-0
cap_of_one_is_busy = (refl, refl, refl)

-- what a list of moves is answered
abbrev moves_answered : Opening → State → List Move → List (Result Seen Refusal)
moves_answered o s [] = []
moves_answered o s (m ∷ ms) = let out = move o s m in answer_of out ∷ moves_answered o (state_after s out) ms

-- a client with an empty script hands in its calls
abbrev no_scripted_call : State
no_scripted_call = opened ([] ∷ [])

abbrev bump_handed : Move
bump_handed = hand 0 (bump_call 0)

abbrev three_handed : List Move
three_handed =
    bump_handed ∷ bump_handed ∷ by_event ev.Claim ∷ by_event ev.Admit ∷ bump_handed ∷ by_event ev.Claim ∷ by_event ev.Admit ∷ bump_handed ∷ []

-- if both apply, the refusal is Spent and not Busy
limit_is_tested_before_the_cap : moves_answered (record one_waits { limit = 2 }) no_scripted_call three_handed
    ≡ Ok Opened ∷ Err TurnOpen ∷ Ok (Claimed 0 true) ∷ Ok (Free 0) ∷ Ok Opened ∷ Ok (Claimed 4294967296 false) ∷ Ok (Blocked 1) ∷ Err Spent ∷ []
unfolding hidden hidden-the_row-Expr-0 hidden-the_row-Stmt-0
limit_is_tested_before_the_cap = refl

calls_handed_in_meet_the_cap : moves_answered one_waits no_scripted_call three_handed
    ≡ Ok Opened ∷ Err TurnOpen ∷ Ok (Claimed 0 true) ∷ Ok (Free 0) ∷ Ok Opened ∷ Ok (Claimed 4294967296 false) ∷ Ok (Blocked 1) ∷ Err Busy ∷ []
unfolding hidden hidden-the_row-Expr-0 hidden-the_row-Stmt-0
calls_handed_in_meet_the_cap = refl

-- four calls on one record: two readers are free, a writer and a later reader are blocked
abbrev readers_and_a_bump : State
readers_and_a_bump = opened ((read_call 0 ∷ read_call 0 ∷ bump_call 0 ∷ read_call 0 ∷ []) ∷ [])

abbrev four_entries : List Event
four_entries =
    ev.Enter 0 ∷ ev.Claim ∷ ev.Admit ∷ ev.Enter 0 ∷ ev.Claim ∷ ev.Admit ∷ ev.Enter 0 ∷ ev.Claim ∷ ev.Admit ∷ ev.Enter 0 ∷ ev.Claim ∷ ev.Admit ∷ []

reader_behind_a_blocked_writer_is_blocked : (answers (opening (0 ∷ []) 4) readers_and_a_bump four_entries
    ≡ Ok Opened ∷ Ok (Claimed 0 true) ∷ Ok (Free 0) ∷ Ok Opened ∷ Ok (Claimed 1 true) ∷ Ok (Free 1)
    ∷ Ok Opened ∷ Ok (Claimed 2 false) ∷ Ok (Blocked 2) ∷ Ok Opened ∷ Ok (Claimed 4294967298 false) ∷ Ok (Blocked 3) ∷ [])
    × (word_pair (opening (0 ∷ []) 4) readers_and_a_bump four_entries 0 ≡ (0, 4294967299))
unfolding hidden hidden-the_row-Expr-0 hidden-the_row-Stmt-0
reader_behind_a_blocked_writer_is_blocked = (refl, refl)

-- as many calls as the limit have been entered, before and after the first has finished
abbrev one_call_of_two : List Event
one_call_of_two = ev.Enter 0 ∷ ev.Claim ∷ ev.Admit ∷ ev.Enter 0 ∷ ev.Load 0 ∷ ev.Store 0 ∷ ev.Release 0 ∷ ev.Finish 0 ∷ ev.Enter 0 ∷ []

limit_counts_finished_calls : (answers (opening (0 ∷ []) 1) (opened ((bump_call 0 ∷ bump_call 0 ∷ []) ∷ [])) one_call_of_two
    ≡ Ok Opened ∷ Ok (Claimed 0 true) ∷ Ok (Free 0) ∷ Err Spent ∷ Ok (Loaded 0) ∷ Ok Stored ∷ Ok (Released 4294967296) ∷ Ok (Replied (Committed (1 ∷ []))) ∷ Err Spent ∷ [])
    × (word_pair (opening (0 ∷ []) 1) (opened ((bump_call 0 ∷ bump_call 0 ∷ []) ∷ [])) one_call_of_two 0 ≡ (1, 0))
unfolding hidden hidden-the_row-Expr-0 hidden-the_row-Stmt-0
limit_counts_finished_calls = (refl, refl)

-- a store during the loads is refused, and changes no word
store_before_the_loads_is_refused : (answers (opening (5 ∷ []) 1) (opened ((bump_call 0 ∷ []) ∷ [])) (ev.Enter 0 ∷ ev.Claim ∷ ev.Admit ∷ ev.Store 0 ∷ ev.Load 0 ∷ [])
    ≡ Ok Opened ∷ Ok (Claimed 0 true) ∷ Ok (Free 0) ∷ Err OutOfStep ∷ Ok (Loaded 5) ∷ [])
    × (word_pair (opening (5 ∷ []) 1) (opened ((bump_call 0 ∷ []) ∷ [])) (ev.Enter 0 ∷ ev.Claim ∷ ev.Admit ∷ ev.Store 0 ∷ ev.Load 0 ∷ []) 0 ≡ (5, 4294967296))
unfolding hidden hidden-the_row-Expr-0 hidden-the_row-Stmt-0
store_before_the_loads_is_refused = (refl, refl)

-- a turn stays open while another call releases
abbrev release_in_a_turn : List Event
release_in_a_turn =
    ev.Enter 0 ∷ ev.Claim ∷ ev.Admit ∷ ev.Load 0 ∷ ev.Store 0 ∷ ev.Enter 1 ∷ ev.Enter 1 ∷ ev.Release 0 ∷ ev.Claim ∷ ev.Admit ∷ []

release_during_a_turn_is_seen : (answers (opening (0 ∷ []) 2) (opened ((bump_call 0 ∷ []) ∷ (bump_call 0 ∷ []) ∷ [])) release_in_a_turn
    ≡ Ok Opened ∷ Ok (Claimed 0 true) ∷ Ok (Free 0) ∷ Ok (Loaded 0) ∷ Ok Stored
    ∷ Ok Opened ∷ Err TurnOpen ∷ Ok (Released 4294967296) ∷ Ok (Claimed 0 true) ∷ Ok (Free 1) ∷ [])
    × (word_pair (opening (0 ∷ []) 2) (opened ((bump_call 0 ∷ []) ∷ (bump_call 0 ∷ []) ∷ [])) release_in_a_turn 0 ≡ (1, 4294967296))
unfolding hidden hidden-the_row-Expr-0 hidden-the_row-Stmt-0
release_during_a_turn_is_seen = (refl, refl)

-- a call without claims has its reply as soon as it is entered
call_without_claims : (answers (opening (0 ∷ []) 1) (opened ((seven_call ∷ []) ∷ [])) (ev.Enter 0 ∷ ev.Claim ∷ ev.Admit ∷ ev.Load 0 ∷ ev.Finish 0 ∷ [])
    ≡ Ok Opened ∷ Err OutOfStep ∷ Ok (Free 0) ∷ Err OutOfStep ∷ Ok (Replied (Committed (7 ∷ []))) ∷ [])
    × (word_pair (opening (0 ∷ []) 1) (opened ((seven_call ∷ []) ∷ [])) (ev.Enter 0 ∷ ev.Claim ∷ ev.Admit ∷ ev.Load 0 ∷ ev.Finish 0 ∷ []) 0 ≡ (0, 0))
unfolding hidden hidden-the_row-Expr-0 hidden-the_row-Stmt-0
call_without_claims = (refl, refl)

-- what is refused where nothing is entered
refused_with_nothing_entered : (answers (opening (0 ∷ []) 1) (opened ((bump_call 0 ∷ []) ∷ []))
    (ev.Claim ∷ ev.Load 0 ∷ ev.Front ∷ ev.Enter 9 ∷ ev.Enter 0 ∷ ev.Finish 9 ∷ [])
    ≡ Err NoTurn ∷ Err NotRunning ∷ Err Idle ∷ Err NoCall ∷ Ok Opened ∷ Err TurnOpen ∷ [])
    × (word_pair (opening (0 ∷ []) 1) (opened ((bump_call 0 ∷ []) ∷ []))
    (ev.Claim ∷ ev.Load 0 ∷ ev.Front ∷ ev.Enter 9 ∷ ev.Enter 0 ∷ ev.Finish 9 ∷ []) 0 ≡ (0, 0))
unfolding hidden hidden-the_row-Expr-0 hidden-the_row-Stmt-0
refused_with_nothing_entered = (refl, refl)

-- a call finds its second record by the value of the first: of three records, 2 leads to the last
abbrev found_and_run : List Event
found_and_run =
    ev.Find 0 ∷ ev.Enter 0 ∷ ev.Claim ∷ ev.Claim ∷ ev.Admit ∷ ev.Load 0 ∷ ev.Load 0 ∷ ev.Store 0 ∷ ev.Release 0 ∷ ev.Release 0 ∷ ev.Finish 0 ∷ []

found_record_is_claimed : (answers (opening (2 ∷ 0 ∷ 7 ∷ []) 1) (opened ((via_call 0 ∷ []) ∷ [])) found_and_run
    ≡ Ok (Found 2) ∷ Ok Opened ∷ Ok (Claimed 0 true) ∷ Ok (Claimed 0 true) ∷ Ok (Free 0) ∷ Ok (Loaded 2) ∷ Ok (Loaded 7) ∷ Ok Stored
    ∷ Ok (Released 1) ∷ Ok (Released 4294967296) ∷ Ok (Replied (Committed (8 ∷ []))) ∷ [])
    × (word_pair (opening (2 ∷ 0 ∷ 7 ∷ []) 1) (opened ((via_call 0 ∷ []) ∷ [])) found_and_run 0 ≡ (2, 0))
    × (word_pair (opening (2 ∷ 0 ∷ 7 ∷ []) 1) (opened ((via_call 0 ∷ []) ∷ [])) found_and_run 1 ≡ (0, 0))
    × (word_pair (opening (2 ∷ 0 ∷ 7 ∷ []) 1) (opened ((via_call 0 ∷ []) ∷ [])) found_and_run 2 ≡ (8, 0))
unfolding hidden hidden-the_row-Expr-0 hidden-the_row-Stmt-0
found_record_is_claimed = (refl, refl, refl, refl)

-- a value that has changed between its load and the call's own loads
abbrev via_and_bump : State
via_and_bump = opened ((via_call 0 ∷ []) ∷ (bump_call 0 ∷ []) ∷ [])

abbrev bump_between : List Event
bump_between =
    ev.Find 0 ∷ ev.Enter 1 ∷ ev.Claim ∷ ev.Admit ∷ ev.Load 0 ∷ ev.Store 0 ∷ ev.Release 0 ∷ ev.Finish 0
    ∷ ev.Enter 0 ∷ ev.Claim ∷ ev.Claim ∷ ev.Admit ∷ ev.Load 1 ∷ ev.Load 1 ∷ ev.Store 1 ∷ ev.Release 1 ∷ ev.Release 1 ∷ ev.Finish 1 ∷ []

moved_value_aborts_the_call : (answers (opening (1 ∷ 10 ∷ 20 ∷ []) 2) via_and_bump bump_between
    ≡ Ok (Found 1) ∷ Ok Opened ∷ Ok (Claimed 0 true) ∷ Ok (Free 0) ∷ Ok (Loaded 1) ∷ Ok Stored ∷ Ok (Released 4294967296) ∷ Ok (Replied (Committed (2 ∷ [])))
    ∷ Ok Opened ∷ Ok (Claimed 0 true) ∷ Ok (Claimed 0 true) ∷ Ok (Free 1) ∷ Ok (Loaded 2) ∷ Ok (Loaded 10) ∷ Err OutOfStep
    ∷ Ok (Released 1) ∷ Ok (Released 4294967296) ∷ Ok (Replied (Aborted Moved)) ∷ [])
    × (word_pair (opening (1 ∷ 10 ∷ 20 ∷ []) 2) via_and_bump bump_between 0 ≡ (2, 0))
    × (word_pair (opening (1 ∷ 10 ∷ 20 ∷ []) 2) via_and_bump bump_between 1 ≡ (10, 0))
    × (word_pair (opening (1 ∷ 10 ∷ 20 ∷ []) 2) via_and_bump bump_between 2 ≡ (20, 0))
unfolding hidden hidden-the_row-Expr-0 hidden-the_row-Stmt-0
moved_value_aborts_the_call = (refl, refl, refl, refl)

-- nothing enters before its source is loaded; only the next call of a script is found for, if it has an indirect key, and not in its client's own turn
finds_are_refused : answers (opening (0 ∷ []) 2) via_and_bump (ev.Enter 0 ∷ ev.Find 1 ∷ ev.Find 9 ∷ ev.Find 0 ∷ ev.Enter 0 ∷ ev.Find 0 ∷ [])
    ≡ Err OutOfStep ∷ Err OutOfStep ∷ Err NoCall ∷ Ok (Found 0) ∷ Ok Opened ∷ Err TurnOpen ∷ []
unfolding hidden hidden-the_row-Expr-0 hidden-the_row-Stmt-0
finds_are_refused = refl

-- a value is found in another client's turn, and a refused Enter keeps it
value_is_kept_through_another_turn : answers (opening (0 ∷ []) 2) via_and_bump (ev.Enter 1 ∷ ev.Find 0 ∷ ev.Enter 0 ∷ ev.Claim ∷ ev.Admit ∷ ev.Enter 0 ∷ [])
    ≡ Ok Opened ∷ Ok (Found 0) ∷ Err TurnOpen ∷ Ok (Claimed 0 true) ∷ Ok (Free 0) ∷ Ok Opened ∷ []
unfolding hidden hidden-the_row-Expr-0 hidden-the_row-Stmt-0
value_is_kept_through_another_turn = refl
