-- What whole replays print, computed.
use Rattle.std.proofs.Common.{◌≡◌, ℕ, List, [], ◌∷◌, ◌++◌, length, None, refl}
use Rattle.std.specs.Prelude.{codes}
use Rattle.std.specs.Fmt.{digits}
use denote.Hole.Carrier.{hidden}
use Rattle.vll_proc.specs.declared.syntax.Edition.TheVariants.{One}
use Rattle.vll_proc.specs.declared.syntax.Expr.TheBlock.{hidden-the_row-Expr-0}
use Rattle.vll_proc.specs.declared.syntax.Stmt.TheBlock.{hidden-the_row-Stmt-0}
use Rattle.vll_proc.specs.declared.syntax.Proc.{Proc}
use Rattle.vll_proc.specs.Headline.Made.{call_of}
use Rattle.vll_proc.proofs.Rows.{transfer_keys, transfer_body, bump_keys, bump_body, via_keys, via_body}
use Rattle.vll_sca.specs.declared.place.Placing.TheVariants.{Modulo}
use Rattle.vll_core.specs.declared.event.Event.{Event}
use Rattle.vll_core.specs.declared.event.Event.TheVariants.{Find, Enter, Claim, Admit, Front, Scan, Load, Store, Release, Finish}
use Rattle.vll_replay.specs.Replay.{text_of_setup}
use Rattle.vll_scenario.specs.Headline.Setup.{Setup}
use Rattle.vll_replay.specs.Headline.Text.{Text}

abbrev bump : Proc
bump = record { edition = One; name = codes "bump"; args = 1; keys = bump_keys; body = bump_body }

abbrev transfer : Proc
transfer = record { edition = One; name = codes "transfer"; args = 3; keys = transfer_keys; body = transfer_body }

abbrev via : Proc
via = record { edition = One; name = codes "via"; args = 1; keys = via_keys; body = via_body }

line : Text → Text
line words = words ++ 10 ∷ []

-- a client that bumps one record twice, with these events
abbrev bumps : List Event → Setup
bumps events = record {
  records = 0 ∷ [];
  procs = bump ∷ [];
  scripts = (call_of 1 0 bump (0 ∷ []) None ∷ call_of 1 0 bump (0 ∷ []) None ∷ []) ∷ [];
  config = record { cap = 8; limit = 2; bits = 64 };
  placing = Modulo;
  schedule = events;
}

-- no event leaves the opening
no_event : text_of_setup (bumps []) ≡ line (codes "record 0 value 0 pair 0")
unfolding line digits hidden hidden-the_row-Expr-0
no_event = refl

-- a call that is blocked runs once the one before it is gone
blocked_call : text_of_setup (bumps (Enter 0 ∷ Claim ∷ Admit ∷ Enter 0 ∷ Claim ∷ Admit ∷ Front ∷ Load 0 ∷ Store 0 ∷ Release 0 ∷ Finish 0 ∷ Front ∷ Load 1 ∷ Store 1 ∷ Release 1 ∷ Finish 1 ∷ []))
    ≡ line (codes "0 opened") ++ line (codes "1 claimed 0 granted") ++ line (codes "2 free 0") ++ line (codes "3 opened") ++ line (codes "4 claimed 4294967296 denied") ++ line (codes "5 blocked 1")
    ++ line (codes "6 refused idle") ++ line (codes "7 loaded 0") ++ line (codes "8 stored") ++ line (codes "9 released 8589934592") ++ line (codes "10 replied committed 1") ++ line (codes "11 run 1") ++ line (codes "12 loaded 1")
    ++ line (codes "13 stored") ++ line (codes "14 released 4294967296") ++ line (codes "15 replied committed 2") ++ line (codes "call 0 client 0 committed 1") ++ line (codes "call 1 client 0 committed 2") ++ line (codes "record 0 value 2 pair 0")
unfolding line digits hidden hidden-the_row-Expr-0
blocked_call = refl

-- a transfer has stored and holds one of its claims, a bump runs, and another bump waits for the transfer
abbrev transfer_and_bumps : Setup
transfer_and_bumps = record {
  records = 10 ∷ 20 ∷ [];
  procs = transfer ∷ bump ∷ [];
  scripts = (call_of 2 0 transfer (0 ∷ 1 ∷ 5 ∷ []) None ∷ []) ∷ (call_of 2 1 bump (0 ∷ []) None ∷ call_of 2 1 bump (1 ∷ []) None ∷ []) ∷ [];
  config = record { cap = 8; limit = 3; bits = 64 };
  placing = Modulo;
  schedule = Enter 0 ∷ Claim ∷ Claim ∷ Admit ∷ Load 0 ∷ Load 0 ∷ Store 0 ∷ Store 0 ∷ Release 0 ∷ Enter 1 ∷ Claim ∷ Admit ∷ Enter 1 ∷ Claim ∷ Admit ∷ Front ∷ Scan ∷ [];
}

standing_calls : text_of_setup transfer_and_bumps
    ≡ line (codes "0 opened") ++ line (codes "1 claimed 0 granted") ++ line (codes "2 claimed 0 granted") ++ line (codes "3 free 0") ++ line (codes "4 loaded 10") ++ line (codes "5 loaded 20") ++ line (codes "6 stored")
    ++ line (codes "7 stored") ++ line (codes "8 released 4294967296") ++ line (codes "9 opened") ++ line (codes "10 claimed 0 granted") ++ line (codes "11 free 1") ++ line (codes "12 opened")
    ++ line (codes "13 claimed 4294967296 denied") ++ line (codes "14 blocked 2") ++ line (codes "15 refused idle") ++ line (codes "16 refused idle")
    ++ line (codes "call 0 client 0 running") ++ line (codes "call 1 client 1 running") ++ line (codes "call 2 client 1 waiting") ++ line (codes "record 0 value 5 pair 4294967296") ++ line (codes "record 1 value 25 pair 8589934592")
unfolding line digits hidden hidden-the_row-Expr-0
standing_calls = refl

-- a client that finds a record by record 0, and one that bumps record 0, with these events
abbrev via_and_bump : List ℕ → List Event → Setup
via_and_bump records events = record {
  records = records;
  procs = via ∷ bump ∷ [];
  scripts = (call_of (length records) 0 via (0 ∷ []) None ∷ []) ∷ (call_of (length records) 1 bump (0 ∷ []) None ∷ []) ∷ [];
  config = record { cap = 8; limit = 2; bits = 64 };
  placing = Modulo;
  schedule = events;
}

-- between finding and entering another call stores the source
source_moves : text_of_setup (via_and_bump (1 ∷ 10 ∷ 20 ∷ []) (Find 0 ∷ Enter 1 ∷ Claim ∷ Admit ∷ Load 0 ∷ Store 0 ∷ Release 0 ∷ Finish 0 ∷ Enter 0 ∷ Claim ∷ Claim ∷ Admit ∷ Load 1 ∷ Load 1 ∷ Store 1 ∷ Release 1 ∷ Release 1 ∷ Finish 1 ∷ []))
    ≡ line (codes "0 found 1") ++ line (codes "1 opened") ++ line (codes "2 claimed 0 granted") ++ line (codes "3 free 0") ++ line (codes "4 loaded 1") ++ line (codes "5 stored") ++ line (codes "6 released 4294967296")
    ++ line (codes "7 replied committed 2") ++ line (codes "8 opened") ++ line (codes "9 claimed 0 granted") ++ line (codes "10 claimed 0 granted") ++ line (codes "11 free 1") ++ line (codes "12 loaded 2") ++ line (codes "13 loaded 10")
    ++ line (codes "14 refused out of step") ++ line (codes "15 released 1") ++ line (codes "16 released 4294967296") ++ line (codes "17 replied aborted moved")
    ++ line (codes "call 0 client 1 committed 2") ++ line (codes "call 1 client 0 aborted moved") ++ line (codes "record 0 value 2 pair 0") ++ line (codes "record 1 value 10 pair 0") ++ line (codes "record 2 value 20 pair 0")
unfolding line digits hidden hidden-the_row-Expr-0 hidden-the_row-Stmt-0
source_moves = refl

-- a call with an indirect key enters once its source was loaded, and only such a call has one that can be
refused_finds : text_of_setup (via_and_bump (0 ∷ []) (Enter 0 ∷ Find 1 ∷ Find 9 ∷ Find 0 ∷ Enter 0 ∷ Find 0 ∷ []))
    ≡ line (codes "0 refused out of step") ++ line (codes "1 refused out of step") ++ line (codes "2 refused no call") ++ line (codes "3 found 0") ++ line (codes "4 opened") ++ line (codes "5 refused turn open")
    ++ line (codes "record 0 value 0 pair 0")
unfolding line digits hidden hidden-the_row-Expr-0 hidden-the_row-Stmt-0
refused_finds = refl
