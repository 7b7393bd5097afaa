-- The calls that lines ask for are ones that the library makes, of clients that there are.
use Rattle.std.proofs.Common.{◌≡◌, ◌+◌, ◌<◌, inl, inr, ℕ, Bool, true, false, List, [], ◌∷◌, refl, sym, subst, Option, Some, None, codes, Result, Ok, Err, All, if◌then◌else◌, nat_le, nat_lt}
use Rattle.std.proofs.lemmas.Bool.{ltb-true}
use Rattle.std.proofs.lemmas.List.Elements.{All-cons, All-nil, All-weaker}
use Rattle.serde_json.specs.Data.{Data, Items}
use Rattle.serde_json.specs.Find.{as_array, as_bool, get}
use Rattle.vll_proc.specs.declared.call.Call.{Call}
use Rattle.vll_check.specs.Calls.{Fits, call_made}
use Rattle.vll_check.specs.Headline.Catalog.{Catalog}
use Rattle.vll_check.specs.declared.fault.CallFault.{CallFault}
use Rattle.vll_scenario.specs.Shape.{◌>>=◌}
use Rattle.vll_lines.specs.Request.{AreRequests, IsRequest, IsLine, args_of, asked_by, asked_of, request_with, call_asked, client_of, counts_if, counts_names, has_no_other, id_of, made_by, may_names, name_of, range_in, records_by, records_names, records_or_call, records_within}
use Rattle.vll_lines.specs.Calls.{calls_of, with_call}
use Rattle.vll_lines.specs.declared.request.Request.{Request}
use Rattle.vll_lines.specs.declared.request.Asked.{Asked}
use Rattle.vll_lines.specs.declared.request.Asked.TheVariants as asked
use Rattle.vll_lines.specs.declared.request.ClientCall.{ClientCall}
use Rattle.vll_lines.specs.declared.request.Id.{Id}
use Rattle.vll_lines.specs.declared.request.LineFault.{LineFault}
use Rattle.vll_lines.specs.declared.limits.TheConstants.{MOST_READ}

module _ (library : Catalog) (clients : ℕ) where
  -- a call that fits, of a client below the number
  abbrev IsServed : ClientCall → Type 0
  IsServed c = Fits library c.call × (c.client < clients)

  -- a call that was made is one
  abbrev FitsIn : Result Asked LineFault → Type 0
  FitsIn (Ok (asked.Call c)) = IsServed c
  FitsIn (Ok asked.Counts) = Unit {0}
  FitsIn (Ok (asked.Records range)) = Unit {0}
  FitsIn (Err why) = Unit {0}

  fits_if : (b : Bool) (r s : Result Asked LineFault) → (b ≡ true → FitsIn r) → FitsIn s → FitsIn (if b then r else s)
  fits_if true r s first second = first refl
  fits_if false r s first second = second

  fits_then : {A : Type 0} (r : Result A LineFault) (go : A → Result Asked LineFault) → ((a : A) → FitsIn (go a)) → FitsIn (r >>= go)
  fits_then (Ok a) go each = each a
  fits_then (Err why) go each = tt

  fits_made : (client : ℕ) (name args : List ℕ) → client < clients → FitsIn (made_by library client name args (call_made library name args))
  fits_made client name args low = by_result (call_made library name args) refl
    where
      by_result : (r : Result Call CallFault) → call_made library name args ≡ r → FitsIn (made_by library client name args r)
      by_result (Ok c) is = ((name, args, is), low)
      by_result (Err why) is = tt

  fits_call : (d : Data) → FitsIn (call_asked library clients d)
  fits_call d =
      fits_if (has_no_other may_names d) _ _
      (λ _. fits_then (client_of d) _
      (λ client. fits_then (name_of d) _ (λ name. fits_then (args_of d) _ (λ args. fits_if (nat_lt client clients) _ _ (λ low. fits_made client name args (ltb-true client clients low)) tt))))
      tt

  fits_counts : (o : Option Bool) → FitsIn (counts_if o)
  fits_counts None = tt
  fits_counts (Some true) = tt
  fits_counts (Some false) = tt

  fits_within : (records : ℕ) (range : Option (ℕ × ℕ)) → FitsIn (records_within records range)
  fits_within records None = tt
  fits_within records (Some range) = fits_if (nat_le range.1 MOST_READ) _ _ (λ _. fits_if (nat_le (range.0 + range.1) records) _ _ (λ _. tt) tt) tt

  fits_list : (records : ℕ) (list : Option Items) → FitsIn (records_by records list)
  fits_list records None = tt
  fits_list records (Some ds) = fits_within records (range_in ds)

  fits_records : (d : Data) (o : Option Data) → FitsIn (records_or_call library clients d o)
  fits_records d None = fits_call d
  fits_records d (Some member) = fits_if (has_no_other records_names d) _ _ (λ _. fits_list library.records (as_array member)) tt

  fits_by : (d : Data) (o : Option Data) → FitsIn (asked_by library clients d o)
  fits_by d None = fits_records d (get (codes "records") d)
  fits_by d (Some member) = fits_if (has_no_other counts_names d) _ _ (λ _. fits_counts (as_bool member)) tt

  fits_asked : (d : Data) → FitsIn (asked_of library clients d)
  fits_asked d = fits_by d (get (codes "counts") d)

  fits_with : (it : Result (Option Id) LineFault) (request : Result Asked LineFault) → FitsIn request → FitsIn (request_with it request).asked
  fits_with (Ok it) request fits = fits
  fits_with (Err why) request fits = tt

  fits_line : (line : List ℕ) (a : Request) → IsLine library clients line a → FitsIn a.asked
  fits_line line a (inl long) = subst (λ (b : Request). FitsIn b.asked) (sym long.1) tt
  fits_line line a (inr short) = by_tree short.1
    where
      by_tree : IsRequest library clients line a → FitsIn a.asked
      by_tree (inl is) = subst (λ (b : Request). FitsIn b.asked) (sym is.2) (fits_with (id_of is.0) (asked_of library clients is.0) (fits_asked is.0))
      by_tree (inr is) = subst (λ (b : Request). FitsIn b.asked) (sym is.1.1) tt

  one_fits : (r : Result Asked LineFault) (others : List ClientCall) → FitsIn r → All IsServed others → All IsServed (with_call r others)
  one_fits (Ok (asked.Call c)) others fits more = All-cons IsServed c others fits more
  one_fits (Ok asked.Counts) others fits more = more
  one_fits (Ok (asked.Records range)) others fits more = more
  one_fits (Err why) others fits more = more

  -- each call that lines ask for is one
  asked_served : (lines : List (List ℕ)) (requests : List Request) → AreRequests library clients lines requests → All IsServed (calls_of requests)
  asked_served [] [] are = All-nil IsServed
  asked_served [] (a ∷ more) are = absurd are
  asked_served (l ∷ ls) [] are = absurd are
  asked_served (l ∷ ls) (a ∷ more) are = one_fits a.asked (calls_of more) (fits_line l a are.0) (asked_served ls more are.1)

  pub asked_fit : (lines : List (List ℕ)) (requests : List Request) → AreRequests library clients lines requests → All (λ (c : ClientCall). Fits library c.call) (calls_of requests)
  asked_fit lines requests are = All-weaker IsServed (λ (c : ClientCall). Fits library c.call) (λ c is. is.0) (calls_of requests) (asked_served lines requests are)

  pub asked_low : (lines : List (List ℕ)) (requests : List Request) → AreRequests library clients lines requests → All (λ (c : ClientCall). c.client < clients) (calls_of requests)
  asked_low lines requests are = All-weaker IsServed (λ (c : ClientCall). c.client < clients) (λ c is. is.1) (calls_of requests) (asked_served lines requests are)
