-- What a tape has kept after one more step.
use Rattle.std.proofs.Common.{◌≡◌, ℕ, ◌-◌, ◌+◌, ◌^◌, ◌<◌, ◌≤◌, List, [], ◌∷◌, ◌++◌, length, min, refl, sym, ◌∙◌, subst, arith, length-append}
use Rattle.vll_core.specs.State.{Opening}
use Rattle.vll_replay.specs.Steps.{Step}
use Rattle.vll_draw.specs.Columns.{AreColumns, IsColumn, window}
use Rattle.vll_draw.specs.declared.picture.column.Column.{Column}
use Rattle.vll_draw.specs.declared.picture.drawing.Standing.{Standing}
use Rattle.vll_draw.specs.Taped.{HasTaped, Stands, StandsBefore, drawn}
use Rattle.vll_draw.specs.declared.tape.Tape.{Tape}
use Rattle.vll_scenario.specs.declared.event_range.EventRange.{EventRange}
use Rattle.vll_draw.proofs.Windows.{columns-append, columns-length, window-ahead, window-full, window-within}

-- a tape that differs in nothing that is drawn has kept the same
pub same : (o : Opening) (w : EventRange) (past now : List Step) (t u : Tape) → HasTaped o w past t → drawn w now ≡ drawn w past → u.events ≡ min (length now) (2 ^ 64 - 1) → u.ahead ≡ w.from - length now
    → u.most ≡ t.most → u.columns.items ≡ t.columns.items → u.standing ≡ t.standing → HasTaped o w now u
same o w past now t u has still events ahead most columns standing = record {
  events = events;
  ahead = ahead;
  most = most ∙ has.most;
  columns = subst (λ (ss : List Step). AreColumns o.base ss u.columns.items) (sym still) (subst (AreColumns o.base (drawn w past)) (sym columns) has.columns);
  standing = λ s more is. subst (λ (x : Standing). Stands o s.before x) (sym standing) (has.standing s more (sym still ∙ is));
}

-- the number of steps after one more
one_more : (past : List Step) (s : Step) (old new : ℕ) → old ≡ min (length past) (2 ^ 64 - 1) → new ≡ min (old + 1) (2 ^ 64 - 1) → new ≡ min (length (past ++ s ∷ [])) (2 ^ 64 - 1)
one_more past s old new was is = omega (arith, was, is, length-append past (s ∷ []))

-- a step before those that are drawn
pub step_ahead : (o : Opening) (w : EventRange) (past : List Step) (s : Step) (t u : Tape) → HasTaped o w past t → 0 < t.ahead → u.events ≡ min (t.events + 1) (2 ^ 64 - 1) → u.ahead ≡ t.ahead - 1 → u.most ≡ t.most
    → u.columns.items ≡ t.columns.items → u.standing ≡ t.standing → HasTaped o w (past ++ s ∷ []) u
step_ahead o w past s t u has some events ahead most columns standing =
    let before : length past < w.from = omega (arith, has.ahead, some) in
    let fewer : u.ahead ≡ w.from - length (past ++ s ∷ []) = omega (arith, ahead, has.ahead, some, length-append past (s ∷ [])) in
    same o w past (past ++ s ∷ []) t u has (window-ahead w.from w.count past s before) (one_more past s t.events u.events has.events events) fewer most columns standing

-- a step after those that are drawn
pub step_behind : (o : Opening) (w : EventRange) (past : List Step) (s : Step) (t u : Tape) → HasTaped o w past t → t.ahead ≤ 0 → t.most ≤ length t.columns.items → u.events ≡ min (t.events + 1) (2 ^ 64 - 1) → u.ahead ≡ t.ahead → u.most ≡ t.most
    → u.columns.items ≡ t.columns.items → u.standing ≡ t.standing → HasTaped o w (past ++ s ∷ []) u
step_behind o w past s t u has none many events ahead most columns standing =
    let begun : w.from ≤ length past = omega (arith, has.ahead, none) in
    let full : w.count ≤ length (window w.from w.count past) = omega (arith, many, has.most, columns-length o.base (drawn w past) t.columns.items has.columns) in
    let still : u.ahead ≡ w.from - length (past ++ s ∷ []) = omega (arith, ahead, none, begun, length-append past (s ∷ [])) in
    same o w past (past ++ s ∷ []) t u has (window-full w.from w.count past s begun full) (one_more past s t.events u.events has.events events) still most columns standing

-- what holds of the first item, if one more is added
first_of : (P : Step → Type 0) (ss : List Step) (s x : Step) (more : List Step) → ((y : Step) (ys : List Step) → ss ≡ y ∷ ys → P y) → (ss ≡ [] → P s) → ss ++ s ∷ [] ≡ x ∷ more → P x
first_of P [] s x more old new is = let here : s ≡ x = cc is in subst P here (new refl)
first_of P (y ∷ ys) s x more old new is = let here : y ≡ x = cc is in subst P here (old y ys refl)

-- a step that is drawn
pub step_drawn : (o : Opening) (w : EventRange) (past : List Step) (s : Step) (c : Column) (t u : Tape) → HasTaped o w past t → StandsBefore o w past s.before t → IsColumn o.base s c
    → t.ahead ≤ 0 → length t.columns.items < t.most → u.events ≡ min (t.events + 1) (2 ^ 64 - 1) → u.ahead ≡ t.ahead → u.most ≡ t.most → u.columns.items ≡ t.columns.items ++ c ∷ [] → u.standing ≡ t.standing
    → HasTaped o w (past ++ s ∷ []) u
step_drawn o w past s c t u has before is none few events ahead most columns standing =
    let begun : w.from ≤ length past = omega (arith, has.ahead, none) in
    let room : length (window w.from w.count past) < w.count = omega (arith, few, has.most, columns-length o.base (drawn w past) t.columns.items has.columns) in
    let grown : drawn w (past ++ s ∷ []) ≡ drawn w past ++ s ∷ [] = window-within w.from w.count past s begun room in
    let StandsNow : Step → Type 0 = λ (x : Step). Stands o x.before u.standing in
    let stood : (x : Step) → Stands o x.before t.standing → StandsNow x = λ x words. subst (λ (y : Standing). Stands o x.before y) (sym standing) words in
    record {
      events = one_more past s t.events u.events has.events events;
      ahead = omega (arith, ahead, none, begun, length-append past (s ∷ []));
      most = most ∙ has.most;
      columns = subst (λ (ss : List Step). AreColumns o.base ss u.columns.items) (sym grown)
          (subst (AreColumns o.base (drawn w past ++ s ∷ [])) (sym columns) (columns-append o.base (drawn w past) t.columns.items s c has.columns is));
      standing = λ x more first. first_of StandsNow (drawn w past) s x more (λ y ys e. stood y (has.standing y ys e)) (λ none_yet. stood s (before begun none_yet)) (sym grown ∙ first);
    }
