-- A procedure that is refused has a part that does not pass the test.
use Rattle.std.proofs.Common.{◌≡◌, ℕ, Bool, true, false, ◌&&◌, Option, Some, None, refl, subst}
use Rattle.std.specs.Option.{option_or}
use Rattle.std.proofs.lemmas.Option.{same_Some}
use Rattle.vll_proc.specs.declared.syntax.Proc.{Proc}
use Rattle.vll_proc.specs.WellFormed.{has_few_args, has_few_keys, has_declared_key_args, has_records, has_known_keys, has_writable_keys, has_known_args, has_known_locals, reads_set_locals, has_few_replies, is_shallow, is_short, has_earlier_sources, has_one_indirect_key, has_few_turns, is_light}
use Rattle.vll_check.specs.declared.fault.CheckFault.{CheckFault}
use Rattle.vll_check.specs.declared.fault.CheckFault.TheVariants.{TooManyArgs, TooManyKeys, KeyArg, FixedRecord, UnknownKey, NotWritable, UnknownArg, UnknownLocal, UnsetLocal, TooManyReplies, TooDeep, TooLong, ThroughKey, TwoThrough, Turns, TooMuchWork}
use Rattle.vll_check.specs.Faults.{check_fault, declared_fault, fault_unless, form_fault, name_fault, size_fault}
use Rattle.vll_check.specs.Pieces.{args_pass, keys_pass, list_passes, nothing_before}

-- of a test, or of those after it
one : (F : CheckFault → Type 0) (b : Bool) (f why : CheckFault) (rest : Option CheckFault) → (b ≡ false → F f) → (rest ≡ Some why → F why) → fault_unless b f rest ≡ Some why → F why
one F true f why rest here on is = on is
one F false f why rest here on is = subst F (same_Some f why is) (here refl)

-- of some tests, or of others
either : (T : Type 0) (o rest : Option CheckFault) (why : CheckFault) → (o ≡ Some why → T) → (rest ≡ Some why → T) → option_or o rest ≡ Some why → T
either T None rest why here on is = on is
either T (Some f) rest why here on is = here is

no_more : (T : Type 0) (why : CheckFault) → None ≡ Some why → T
no_more T why is = absurd (cc)

neither : (a b : Bool) → b ≡ false → ((a && b) && true) ≡ false
neither true b fails = rw fails refl
neither false b fails = refl

module _ (records : ℕ) (p : Proc) where
  abbrev HasAPart : CheckFault → Type 0
  HasAPart why = (args_pass why p && (keys_pass why records p && list_passes why p nothing_before p.body)) ≡ false

  declared : (why : CheckFault) → declared_fault records p ≡ Some why → HasAPart why
  declared why =
      one HasAPart (has_few_args p) TooManyArgs why _ (λ fails. rw fails refl)
      (one HasAPart (has_few_keys p) TooManyKeys why _ (λ fails. rw fails refl)
      (one HasAPart (has_declared_key_args p) KeyArg why _ (λ fails. rw fails refl)
      (one HasAPart (has_records records p) FixedRecord why _ (λ fails. rw fails refl)
      (no_more (HasAPart why) why))))

  named : (why : CheckFault) → name_fault p ≡ Some why → HasAPart why
  named why =
      one HasAPart (has_known_keys p) UnknownKey why _ (λ fails. fails)
      (one HasAPart (has_writable_keys p) NotWritable why _ (λ fails. fails)
      (one HasAPart (has_known_args p) UnknownArg why _ (λ fails. fails)
      (one HasAPart (has_known_locals p) UnknownLocal why _ (λ fails. fails)
      (one HasAPart (reads_set_locals p) UnsetLocal why _ (λ fails. fails)
      (no_more (HasAPart why) why)))))

  sized : (why : CheckFault) → size_fault p ≡ Some why → HasAPart why
  sized why =
      one HasAPart (has_few_replies p) TooManyReplies why _ (λ fails. fails)
      (one HasAPart (is_shallow p) TooDeep why _ (λ fails. fails)
      (one HasAPart (is_short p) TooLong why _ (λ fails. fails)
      (no_more (HasAPart why) why)))

  formed : (why : CheckFault) → form_fault p ≡ Some why → HasAPart why
  formed why =
      one HasAPart (has_earlier_sources p) ThroughKey why _ (neither (has_few_keys p) (has_earlier_sources p))
      (one HasAPart (has_one_indirect_key p) TwoThrough why _ (neither (has_few_keys p) (has_one_indirect_key p))
      (one HasAPart (has_few_turns p) Turns why _ (λ fails. fails)
      (one HasAPart (is_light p) TooMuchWork why _ (λ fails. fails)
      (no_more (HasAPart why) why))))

pub has_a_part : (records : ℕ) (p : Proc) (why : CheckFault) → check_fault records p ≡ Some why → HasAPart records p why
has_a_part records p why =
    either (HasAPart records p why) (declared_fault records p) _ why (declared records p why)
    (either (HasAPart records p why) (name_fault p) _ why (named records p why)
    (either (HasAPart records p why) (size_fault p) _ why (sized records p why) (formed records p why)))
