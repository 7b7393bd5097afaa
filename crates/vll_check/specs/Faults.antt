-- Which fault a procedure has: the lowest number whose test fails.
use Rattle.std.specs.Prelude.{ℕ, Bool, true, false, Option, Some, None, Result, Ok, Err}
use Rattle.std.specs.Option.{option_or}
use Rattle.vll_proc.specs.declared.syntax.Proc.{Proc}
use Rattle.vll_proc.specs.WellFormed.{has_few_args, has_few_keys, has_declared_key_args, has_records, has_known_keys, has_writable_keys, has_known_args, has_known_locals, reads_set_locals, has_few_replies, is_shallow, is_short, has_earlier_sources, has_one_indirect_key, has_few_turns, is_light}
use Rattle.vll_check.specs.declared.fault.CheckFault.{CheckFault}
use Rattle.vll_check.specs.declared.fault.CheckFault.TheVariants.{TooManyArgs, TooManyKeys, KeyArg, FixedRecord, UnknownKey, NotWritable, UnknownArg, UnknownLocal, UnsetLocal, TooManyReplies, TooDeep, TooLong, ThroughKey, TwoThrough, Turns, TooMuchWork}

-- the fault of a test that fails, or else the outcome of the tests after it
abbrev pub fault_unless : Bool → CheckFault → Option CheckFault → Option CheckFault
fault_unless true fault behind = behind
fault_unless false fault behind = Some fault

-- the first fault in what a procedure declares
abbrev pub declared_fault : ℕ → Proc → Option CheckFault
declared_fault records p =
    fault_unless (has_few_args p) TooManyArgs
    (fault_unless (has_few_keys p) TooManyKeys
    (fault_unless (has_declared_key_args p) KeyArg
    (fault_unless (has_records records p) FixedRecord None)))

-- the first fault in what the body of a procedure names
abbrev pub name_fault : Proc → Option CheckFault
name_fault p =
    fault_unless (has_known_keys p) UnknownKey
    (fault_unless (has_writable_keys p) NotWritable
    (fault_unless (has_known_args p) UnknownArg
    (fault_unless (has_known_locals p) UnknownLocal
    (fault_unless (reads_set_locals p) UnsetLocal None))))

-- the first fault in the length and depth of the body of a procedure
abbrev pub size_fault : Proc → Option CheckFault
size_fault p =
    fault_unless (has_few_replies p) TooManyReplies
    (fault_unless (is_shallow p) TooDeep
    (fault_unless (is_short p) TooLong None))

-- the first fault in the indirect keys of a procedure and in what its body repeats
abbrev pub form_fault : Proc → Option CheckFault
form_fault p =
    fault_unless (has_earlier_sources p) ThroughKey
    (fault_unless (has_one_indirect_key p) TwoThrough
    (fault_unless (has_few_turns p) Turns
    (fault_unless (is_light p) TooMuchWork None)))

-- the fault of the lowest of the sixteen tests that a procedure fails for `records` records, if it fails one
abbrev pub check_fault : ℕ → Proc → Option CheckFault
check_fault records p = option_or (declared_fault records p) (option_or (name_fault p) (option_or (size_fault p) (form_fault p)))

-- the fault that an answer reports
abbrev pub fault_in : {A : Type 0} → Result A CheckFault → Option CheckFault
fault_in (Ok made) = None
fault_in (Err fault) = Some fault
