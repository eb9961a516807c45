-- A run as code does it, loop by loop.
use Rattle.std.proofs.Common.{◌≡◌, ℕ, zero, suc, ◌+◌, ◌*◌, ◌<◌, Bool, true, false, cond, List, [], ◌∷◌, ◌++◌, length, take, drop, get_or, Option, Some, refl, sym, ap, ◌∙◌, arith, append_assoc, subst, length-append, length-take, length-drop}
use Rattle.std.proofs.lemmas.List.{append-nil, drop_more, length-map}
use Rattle.std.specs.Prelude.{map, slice_get, slice_set, remove}
use Rattle.std.specs.List.{AllByRecursion}
use Rattle.lb_base.specs.Devices.{Appends, AppendsPrefix}
use Rattle.lb_base.proofs.DeviceLemmas.{Appends-none, Appends-append, Appends-same, AppendsPrefix-within, AppendsPrefix-along, AppendsPrefix-more, AppendsPrefix-behind}
use Rattle.boki_types.specs.declared.event.Event.{Event}
use Rattle.boki_types.specs.declared.line.Line.{Line}
use Rattle.boki_types.specs.declared.plan.Item.{Item}
use Rattle.boki_types.specs.declared.plan.Item.TheVariants.{One, Repeat}
use Rattle.boki_types.specs.declared.plan.Setup.{Setup}
use Rattle.boki_types.specs.declared.program.Function.{Function}
use Rattle.boki_model.specs.Plans.{is_event, repeat_events, events_of, events, event_count, total_events}
use Rattle.boki_machine.specs.Machine.{Machine, apply_event}
use Rattle.nemesis_types.specs.declared.seen.Seen.{Seen}
use Rattle.nemesis_types.specs.Automaton.{answer_of}
use Rattle.nemesis_types.specs.Kept.{NumberedNemesis, after_asking, spent_at, next_asked_index, without_spent}
use Rattle.run_with.specs.Runs.{Output, Planned, Added, RunState, state, NemesisRun, nemesis_run, nothing_done, followed_by, seen_of, reseeded_by, run_event, run_answer, ask_one, ask_from, round, run_from}
use Rattle.run_with.specs.Written.{text_of_lines, SinkTook, SinkTookPrefix}

-- Joined.

pub joined_assoc : (t u v : NemesisRun) → followed_by (followed_by t u) v ≡ followed_by t (followed_by u v)
joined_assoc t u v =
    ap (λ l. nemesis_run l ((t.performed ++ u.performed) ++ v.performed) v.after) (append_assoc t.lines u.lines v.lines)
    ∙ ap (λ l. nemesis_run (t.lines ++ (u.lines ++ v.lines)) l v.after) (append_assoc t.performed u.performed v.performed)

pub joined_quiet : (t : NemesisRun) → followed_by t (nothing_done t.after) ≡ t
joined_quiet t =
    ap (λ l. nemesis_run l (t.performed ++ []) t.after) (append-nil t.lines) ∙ ap (λ l. nemesis_run t.lines l t.after) (append-nil t.performed)

-- How a run goes on.

module _ (t : Setup) (fs : List Function) where
  -- behind a nemesis that was asked and, where it is spent, dropped
  pub asks_more : (seen : Seen) (count left at next : ℕ) (m : Machine) (ks mid rest : List NumberedNemesis) → count ≡ suc left → mid ≡ (ask_one t fs seen at (state m ks)).after.kept → next ≡ next_asked_index mid at → rest ≡ without_spent mid at → ask_from t fs seen count at (state m ks) ≡ followed_by (ask_one t fs seen at (state m ks)) (ask_from t fs seen left next (state (ask_one t fs seen at (state m ks)).after.machine rest))
  asks_more seen count left at next m ks mid rest e k n r = rw (e, r, n, k) refl

  -- an ask, from what it says of the nemesis at the index
  pub ask_is : (seen : Seen) (at : ℕ) (m : Machine) (ks rest : List NumberedNemesis) (k : NumberedNemesis) (p : ℕ × Option Event) → slice_get ks at ≡ Some k → p ≡ (k.number, answer_of k.automaton seen) → rest ≡ slice_set ks at (after_asking seen k) → ask_one t fs seen at (state m ks) ≡ run_answer t fs seen.event p.0 p.1 (state m rest)
  ask_is seen at m ks rest k p g e r = rw (g, e, r) refl

  pub added_valid : (n i : ℕ) (o : Option Event) (e : Event) (s : RunState) → o ≡ Some e → is_event t fs e ≡ true → run_answer t fs n i o s ≡ run_event t fs (Added n i e) e s
  added_valid n i o e s h ok = rw (h, ok) refl

  -- an event of the plan, and the nemeses behind it
  pub round_is : (n : ℕ) (e : Event) (m : Machine) (ks mid : List NumberedNemesis) (count : ℕ) (line : Line) → line ≡ (apply_event t fs m e).line → mid ≡ reseeded_by e ks → count ≡ length mid → round t fs n e (state m ks) ≡ followed_by (run_event t fs (Planned n) e (state m ks)) (ask_from t fs (seen_of n e line) count 0 (state (apply_event t fs m e).machine mid))
  round_is n e m ks mid count line l k c = rw (c, k, l) refl

  -- the next event of a list
  pub run_more : (es : List Event) (i n : ℕ) (e : Event) (m : Machine) (ks rest : List NumberedNemesis) → i < length es → e ≡ get_or es i e → rest ≡ (round t fs n e (state m ks)).after.kept → run_from t fs n (drop i es) (state m ks) ≡ followed_by (round t fs n e (state m ks)) (run_from t fs (n + 1) (drop (i + 1) es) (state (round t fs n e (state m ks)).after.machine rest))
  run_more es i n e m ks rest within is k =
      ap (λ l. run_from t fs n l (state m ks)) (drop_more es i e within ∙ ap (λ x. x ∷ drop (i + 1) es) (sym is))
      ∙ ap (λ k. followed_by (round t fs n e (state m ks)) (run_from t fs (n + 1) (drop (i + 1) es) (state (round t fs n e (state m ks)).after.machine k))) (sym k)

  -- one list behind another
  pub run_append : (n : ℕ) (es more : List Event) (s : RunState) → run_from t fs n (es ++ more) s ≡ followed_by (run_from t fs n es s) (run_from t fs (n + length es) more (run_from t fs n es s).after)
  run_append n [] more s = let e : n ≡ n + 0 = omega arith in ap (λ k. run_from t fs k more s) e
  run_append n (e ∷ es) more s =
      let r = round t fs n e s in
      let next : n + 1 + length es ≡ n + suc (length es) = omega arith in
      ap (followed_by r) (run_append (n + 1) es more r.after)
      ∙ sym (joined_assoc r (run_from t fs (n + 1) es r.after) (run_from t fs (n + 1 + length es) more (run_from t fs (n + 1) es r.after).after))
      ∙ ap (λ k. followed_by (run_from t fs n (e ∷ es) s) (run_from t fs k more (run_from t fs (n + 1) es r.after).after)) next

  -- the same, with what is known of the first
  pub run_behind : (n next : ℕ) (es more all : List Event) (m : Machine) (ks rest : List NumberedNemesis) → all ≡ es ++ more → next ≡ n + length es → rest ≡ (run_from t fs n es (state m ks)).after.kept → run_from t fs n all (state m ks) ≡ followed_by (run_from t fs n es (state m ks)) (run_from t fs next more (state (run_from t fs n es (state m ks)).after.machine rest))
  run_behind n next es more all m ks rest a e k = rw (a, e, k) (run_append n es more (state m ks))

-- the next item of a plan, and the next turn of a repeat
pub events_more : (items : List Item) (i : ℕ) (x : Item) → i < length items → x ≡ get_or items i x → events (drop i items) ≡ events_of x ++ events (drop (i + 1) items)
events_more items i x within is = ap events (drop_more items i x within ∙ ap (λ y. y ∷ drop (i + 1) items) (sym is))

pub repeated_more : (count left : ℕ) (es : List Event) → count ≡ suc left → repeat_events count es ≡ es ++ repeat_events left es
repeated_more count left es e = rw e refl

pub each_at : (P : Event → Type 0) (es : List Event) (i : ℕ) (e : Event) → i < length es → e ≡ get_or es i e → AllByRecursion P es → P e
each_at P [] i e within is all = absurd (omega arith)
each_at P (x ∷ es) zero e within is all = subst P (sym is) all.0
each_at P (x ∷ es) (suc i) e within is all = each_at P es i e (omega arith) is all.1

split_each : (P : Event → Type 0) (xs more : List Event) → AllByRecursion P (xs ++ more) → AllByRecursion P xs × AllByRecursion P more
split_each P [] more h = (tt, h)
split_each P (x ∷ xs) more h = let rest = split_each P xs more h.1 in ((h.0, rest.0), rest.1)

pub each_parts : (P : Event → Type 0) (es more all : List Event) → all ≡ es ++ more → AllByRecursion P all → AllByRecursion P es × AllByRecursion P more
each_parts P es more all is valid = split_each P es more (subst (AllByRecursion P) is valid)

pub length_parts : (es more all : List Event) → all ≡ es ++ more → length all ≡ length es + length more
length_parts es more all is = ap length is ∙ length-append es more

-- how many events there are
pub length_repeated : (n : ℕ) (es : List Event) → length (repeat_events n es) ≡ n * length es
length_repeated zero es = omega arith
length_repeated (suc n) es = let h = length_repeated n es in omega (arith, length-append es (repeat_events n es))

pub length_events_of : (i : Item) → length (events_of i) ≡ event_count i
length_events_of (One e) = refl
length_events_of (Repeat n es) = length_repeated n es

pub length_events : (items : List Item) → length (events items) ≡ total_events items
length_events [] = refl
length_events (i ∷ items) = let h = length_events items in omega (arith, length-append (events_of i) (events items), length_events_of i)

-- What is written.

module _ (line_text : Output → List ℕ) where
  pub text_append : (xs ys : List Output) → text_of_lines line_text (xs ++ ys) ≡ text_of_lines line_text xs ++ text_of_lines line_text ys
  text_append [] ys = refl
  text_append (x ∷ xs) ys = ap (λ l. line_text x ++ l) (text_append xs ys) ∙ sym (append_assoc (line_text x) (text_of_lines line_text xs) (text_of_lines line_text ys))

  -- one line
  pub one_line : (old new : Option (List ℕ)) (bytes : List ℕ) (x : Output) → bytes ≡ line_text x → Appends old new bytes → Appends old new (text_of_lines line_text (x ∷ []))
  one_line old new bytes x is wrote = Appends-same old new bytes (text_of_lines line_text (x ∷ [])) (is ∙ sym (append-nil (line_text x))) wrote

  pub one_line_front : (old new : Option (List ℕ)) (bytes : List ℕ) (x : Output) → bytes ≡ line_text x → AppendsPrefix old new bytes → AppendsPrefix old new (text_of_lines line_text (x ∷ []))
  one_line_front old new bytes x is wrote = AppendsPrefix-along old new bytes (text_of_lines line_text (x ∷ [])) (is ∙ sym (append-nil (line_text x))) wrote

  -- one call behind another
  pub SinkTook-joined : (before behind : Machine → Type 0) (first : NemesisRun) (whole : NemesisRun) (rest : Machine → NemesisRun) (old mid new : Option (List ℕ)) (kept last : List NumberedNemesis) → SinkTook line_text before first old mid kept → ((m : Machine) → before m → SinkTook line_text behind (rest m) mid new last) → whole ≡ followed_by first (rest first.after.machine) → SinkTook line_text behind whole old new last
  SinkTook-joined before behind first whole rest old mid new kept last one two is =
      let r = rest first.after.machine in
      let then = two first.after.machine one.machine in
      let both : SinkTook line_text behind (followed_by first r) old new last = record {
        text = Appends-same old new _ _ (sym (text_append first.lines r.lines)) (Appends-append old mid new _ _ one.text then.text);
        same = then.same;
        machine = then.machine;
      } in
      subst (λ w. SinkTook line_text behind w old new last) (sym is) both

  -- where the first call fails, and where the second does
  pub SinkTookPrefix-first : (first rest whole : NemesisRun) (old new : Option (List ℕ)) → whole ≡ followed_by first rest → SinkTookPrefix line_text first old new → SinkTookPrefix line_text whole old new
  SinkTookPrefix-first first rest whole old new is front = record {
    text =
        AppendsPrefix-along old new _ _ (sym (text_append first.lines rest.lines) ∙ ap (λ w. text_of_lines line_text w.lines) (sym is))
        (AppendsPrefix-more old new (text_of_lines line_text first.lines) (text_of_lines line_text rest.lines) front.text);
  }

  pub SinkTookPrefix-behind : (before : Machine → Type 0) (first whole : NemesisRun) (rest : Machine → NemesisRun) (old mid new : Option (List ℕ)) (kept : List NumberedNemesis) → SinkTook line_text before first old mid kept → ((m : Machine) → before m → SinkTookPrefix line_text (rest m) mid new) → whole ≡ followed_by first (rest first.after.machine) → SinkTookPrefix line_text whole old new
  SinkTookPrefix-behind before first whole rest old mid new kept one two is =
      let r = rest first.after.machine in
      record {
        text =
            AppendsPrefix-along old new _ _ (sym (text_append first.lines r.lines) ∙ ap (λ w. text_of_lines line_text w.lines) (sym is))
            (AppendsPrefix-behind old mid new (text_of_lines line_text first.lines) (text_of_lines line_text r.lines) one.text (two first.after.machine one.machine).text);
      }

  -- In a loop: so much was written, and with what is left to do from a machine that is stood for, that is the
  -- whole.
  pub record Going (stands : Machine → Type 0) (whole : NemesisRun) (start now : Option (List ℕ)) (rest : Machine → NemesisRun) : Type 0 where
    pub at : Machine
    pub stood : stands at
    pub lines : List Output
    pub performed : List Event
    pub wrote : Appends start now (text_of_lines line_text lines)
    pub same : nemesis_run (lines ++ (rest at).lines) (performed ++ (rest at).performed) (rest at).after ≡ whole

  pub Going-start : (stands : Machine → Type 0) (whole : NemesisRun) (rest : Machine → NemesisRun) (start : Option (List ℕ)) (m : Machine) → stands m → rest m ≡ whole → Going stands whole start start rest
  Going-start stands whole rest start m s e = record { at = m; stood = s; lines = []; performed = []; wrote = Appends-none start; same = e }

  pub Going-step : (stands after : Machine → Type 0) (whole : NemesisRun) (start now next : Option (List ℕ)) (first rest then : Machine → NemesisRun) (kept : List NumberedNemesis) → Going stands whole start now rest → ((m : Machine) → stands m → SinkTook line_text after (first m) now next kept) → ((m : Machine) → kept ≡ (first m).after.kept → rest m ≡ followed_by (first m) (then (first m).after.machine)) → Going after whole start next then
  Going-step stands after whole start now next first rest then kept g step link =
      let f = first g.at in
      let made = step g.at g.stood in
      let u = then f.after.machine in
      let r : rest g.at ≡ followed_by f u = link g.at made.same in
      record {
        at = f.after.machine;
        stood = made.machine;
        lines = g.lines ++ f.lines;
        performed = g.performed ++ f.performed;
        wrote = Appends-same start next _ _ (sym (text_append g.lines f.lines)) (Appends-append start now next _ _ g.wrote made.text);
        same =
            joined_assoc (nemesis_run g.lines g.performed u.after) f u
            ∙ ap (λ w. nemesis_run (g.lines ++ w.lines) (g.performed ++ w.performed) w.after) (sym r)
            ∙ g.same;
      }

  pub Going-front : (stands : Machine → Type 0) (whole : NemesisRun) (start now next : Option (List ℕ)) (first rest then : Machine → NemesisRun) → Going stands whole start now rest → ((m : Machine) → stands m → SinkTookPrefix line_text (first m) now next) → ((m : Machine) → rest m ≡ followed_by (first m) (then m)) → SinkTookPrefix line_text whole start next
  Going-front stands whole start now next first rest then g step link =
      let f = first g.at in
      let u = then g.at in
      let whole_is =
      ap (λ l. text_of_lines line_text g.lines ++ l) (sym (text_append f.lines u.lines) ∙ ap (λ w. text_of_lines line_text w.lines) (sym (link g.at)))
      ∙ sym (text_append g.lines (rest g.at).lines)
      ∙ ap (λ w. text_of_lines line_text w.lines) g.same in
      record {
        text =
            AppendsPrefix-along start next _ _ whole_is
            (AppendsPrefix-within start now next (text_of_lines line_text g.lines) (text_of_lines line_text f.lines) (text_of_lines line_text u.lines) g.wrote (step g.at g.stood).text);
      }

  pub Going-end : (stands : Machine → Type 0) (whole : NemesisRun) (start now : Option (List ℕ)) (rest : Machine → NemesisRun) (kept : List NumberedNemesis) → Going stands whole start now rest → ((m : Machine) → rest m ≡ nothing_done (state m kept)) → SinkTook line_text stands whole start now kept
  Going-end stands whole start now rest kept g end =
      let is : nemesis_run (g.lines ++ []) (g.performed ++ []) (state g.at kept) ≡ whole =
      ap (λ w. nemesis_run (g.lines ++ w.lines) (g.performed ++ w.performed) w.after) (sym (end g.at)) ∙ g.same in
      record {
        text = Appends-same start now _ _ (ap (text_of_lines line_text) (sym (append-nil g.lines) ∙ ap (λ w. w.lines) is)) g.wrote;
        same = ap (λ w. w.after.kept) is;
        machine = subst stands (ap (λ w. w.after.machine) is) g.stood;
      }

-- The loops and the calls of a run, with what each needs.

-- the index of the next nemesis, and how many are to be asked
by_spent : (ks : List NumberedNemesis) (at left : ℕ) (b : Bool) → at + suc left ≡ length ks → cond b at (at + 1) + left ≡ length (cond b (remove ks at) ks)
by_spent ks at left true h = omega (arith, length-append (take at ks) (drop (suc at) ks), length-take at ks, length-drop (suc at) ks)
by_spent ks at left false h = omega arith

pub index_left : {B : Type 0} (f : B → NumberedNemesis) (xs ys : List B) (at next left : ℕ) → at + suc left ≡ length xs → next ≡ next_asked_index (map f xs) at → map f ys ≡ without_spent (map f xs) at → next + left ≡ length ys
index_left f xs ys at next left h n r =
    ap (λ k. k + left) n ∙ by_spent (map f xs) at left (spent_at (map f xs) at) (h ∙ sym (length-map xs f)) ∙ sym (ap length r) ∙ length-map ys f

module _ (line_text : Output → List ℕ) (t : Setup) (fs : List Function) where
  pub asks_start : (stands : Machine → Type 0) (start : Option (List ℕ)) (seen : Seen) (all count : ℕ) (m : Machine) (ks : List NumberedNemesis) → stands m → count ≡ all → Going line_text stands (ask_from t fs seen all 0 (state m ks)) start start (λ m. ask_from t fs seen count 0 (state m ks))
  asks_start stands start seen all count m ks s e =
      Going-start line_text stands (ask_from t fs seen all 0 (state m ks)) (λ m. ask_from t fs seen count 0 (state m ks)) start m s (ap (λ k. ask_from t fs seen k 0 (state m ks)) e)

  -- a nemesis was asked
  pub asks_step : (stands after : Machine → Type 0) (whole : NemesisRun) (start now next : Option (List ℕ)) (seen : Seen) (count left at index : ℕ) (ks mid rest : List NumberedNemesis) → count ≡ suc left → index ≡ next_asked_index mid at → rest ≡ without_spent mid at → Going line_text stands whole start now (λ m. ask_from t fs seen count at (state m ks)) → ((m : Machine) → stands m → SinkTook line_text after (ask_one t fs seen at (state m ks)) now next mid) → Going line_text after whole start next (λ m. ask_from t fs seen left index (state m rest))
  asks_step stands after whole start now next seen count left at index ks mid rest e i r g step =
      Going-step line_text stands after whole start now next (λ m. ask_one t fs seen at (state m ks)) (λ m. ask_from t fs seen count at (state m ks)) (λ m. ask_from t fs seen left index (state m rest)) mid g step
      (λ m k. asks_more t fs seen count left at index m ks mid rest e k i r)

  pub asks_front : (stands : Machine → Type 0) (whole : NemesisRun) (start now next : Option (List ℕ)) (seen : Seen) (count left at : ℕ) (ks : List NumberedNemesis) → count ≡ suc left → Going line_text stands whole start now (λ m. ask_from t fs seen count at (state m ks)) → ((m : Machine) → stands m → SinkTookPrefix line_text (ask_one t fs seen at (state m ks)) now next) → SinkTookPrefix line_text whole start next
  asks_front stands whole start now next seen count left at ks e g step =
      let kept : Machine → List NumberedNemesis = λ m. (ask_one t fs seen at (state m ks)).after.kept in
      Going-front line_text stands whole start now next (λ m. ask_one t fs seen at (state m ks)) (λ m. ask_from t fs seen count at (state m ks))
      (λ m. ask_from t fs seen left (next_asked_index (kept m) at) (state (ask_one t fs seen at (state m ks)).after.machine (without_spent (kept m) at))) g step
      (λ m. asks_more t fs seen count left at (next_asked_index (kept m) at) m ks (kept m) (without_spent (kept m) at) e refl refl refl)

  pub asks_end : (stands : Machine → Type 0) (whole : NemesisRun) (start now : Option (List ℕ)) (seen : Seen) (count at : ℕ) (ks : List NumberedNemesis) → count ≡ 0 → Going line_text stands whole start now (λ m. ask_from t fs seen count at (state m ks)) → SinkTook line_text stands whole start now ks
  asks_end stands whole start now seen count at ks e g =
      Going-end line_text stands whole start now (λ m. ask_from t fs seen count at (state m ks)) ks g (λ m. ap (λ k. ask_from t fs seen k at (state m ks)) e)

  -- an event of the plan, and then the nemeses
  pub round_tells : (before after : Machine → Type 0) (old mid new : Option (List ℕ)) (n : ℕ) (e : Event) (m : Machine) (ks kept last : List NumberedNemesis) (seen : Seen) (count : ℕ) → seen ≡ seen_of n e (apply_event t fs m e).line → count ≡ length kept → SinkTook line_text before (run_event t fs (Planned n) e (state m ks)) old mid kept → ((m' : Machine) → before m' → SinkTook line_text after (ask_from t fs seen count 0 (state m' kept)) mid new last) → SinkTook line_text after (round t fs n e (state m ks)) old new last
  round_tells before after old mid new n e m ks kept last seen count s c one two =
      SinkTook-joined line_text before after (run_event t fs (Planned n) e (state m ks)) (round t fs n e (state m ks)) (λ m'. ask_from t fs seen count 0 (state m' kept)) old mid new kept last one two
      (rw (c, s, one.same) refl)

  pub round_front : (old new : Option (List ℕ)) (n : ℕ) (e : Event) (m : Machine) (ks : List NumberedNemesis) → SinkTookPrefix line_text (run_event t fs (Planned n) e (state m ks)) old new → SinkTookPrefix line_text (round t fs n e (state m ks)) old new
  round_front old new n e m ks front =
      let d = run_event t fs (Planned n) e (state m ks) in
      SinkTookPrefix-first line_text d (ask_from t fs (seen_of n e (apply_event t fs m e).line) (length d.after.kept) 0 d.after) (round t fs n e (state m ks)) old new refl front

  pub round_behind : (before : Machine → Type 0) (old mid new : Option (List ℕ)) (n : ℕ) (e : Event) (m : Machine) (ks kept : List NumberedNemesis) (seen : Seen) (count : ℕ) → seen ≡ seen_of n e (apply_event t fs m e).line → count ≡ length kept → SinkTook line_text before (run_event t fs (Planned n) e (state m ks)) old mid kept → ((m' : Machine) → before m' → SinkTookPrefix line_text (ask_from t fs seen count 0 (state m' kept)) mid new) → SinkTookPrefix line_text (round t fs n e (state m ks)) old new
  round_behind before old mid new n e m ks kept seen count s c one two =
      SinkTookPrefix-behind line_text before (run_event t fs (Planned n) e (state m ks)) (round t fs n e (state m ks)) (λ m'. ask_from t fs seen count 0 (state m' kept)) old mid new kept one two
      (rw (c, s, one.same) refl)

  -- events are begun
  pub run_start : (stands : Machine → Type 0) (start : Option (List ℕ)) (n : ℕ) (all es : List Event) (m : Machine) (ks : List NumberedNemesis) → stands m → es ≡ all → Going line_text stands (run_from t fs n all (state m ks)) start start (λ m. run_from t fs n es (state m ks))
  run_start stands start n all es m ks s e =
      Going-start line_text stands (run_from t fs n all (state m ks)) (λ m. run_from t fs n es (state m ks)) start m s (ap (λ l. run_from t fs n l (state m ks)) e)

  -- an event of a list was done
  pub run_step : (stands after : Machine → Type 0) (whole : NemesisRun) (start now next : Option (List ℕ)) (es : List Event) (i n k : ℕ) (e : Event) (ks mid : List NumberedNemesis) → i < length es → e ≡ get_or es i e → k ≡ n + 1 → Going line_text stands whole start now (λ m. run_from t fs n (drop i es) (state m ks)) → ((m : Machine) → stands m → SinkTook line_text after (round t fs n e (state m ks)) now next mid) → Going line_text after whole start next (λ m. run_from t fs k (drop (i + 1) es) (state m mid))
  run_step stands after whole start now next es i n k e ks mid within is j g step =
      Going-step line_text stands after whole start now next (λ m. round t fs n e (state m ks)) (λ m. run_from t fs n (drop i es) (state m ks)) (λ m. run_from t fs k (drop (i + 1) es) (state m mid)) mid g step
      (λ m same. run_more t fs es i n e m ks mid within is same ∙ ap (λ l. followed_by (round t fs n e (state m ks)) (run_from t fs l (drop (i + 1) es) (state (round t fs n e (state m ks)).after.machine mid))) (sym j))

  pub run_front : (stands : Machine → Type 0) (whole : NemesisRun) (start now next : Option (List ℕ)) (es : List Event) (i n : ℕ) (e : Event) (ks : List NumberedNemesis) → i < length es → e ≡ get_or es i e → Going line_text stands whole start now (λ m. run_from t fs n (drop i es) (state m ks)) → ((m : Machine) → stands m → SinkTookPrefix line_text (round t fs n e (state m ks)) now next) → SinkTookPrefix line_text whole start next
  run_front stands whole start now next es i n e ks within is g step =
      Going-front line_text stands whole start now next (λ m. round t fs n e (state m ks)) (λ m. run_from t fs n (drop i es) (state m ks))
      (λ m. run_from t fs (n + 1) (drop (i + 1) es) (round t fs n e (state m ks)).after) g step
      (λ m. run_more t fs es i n e m ks (round t fs n e (state m ks)).after.kept within is refl)

  pub run_end : (stands : Machine → Type 0) (whole : NemesisRun) (start now : Option (List ℕ)) (n : ℕ) (es : List Event) (ks : List NumberedNemesis) → es ≡ [] → Going line_text stands whole start now (λ m. run_from t fs n es (state m ks)) → SinkTook line_text stands whole start now ks
  run_end stands whole start now n es ks e g =
      Going-end line_text stands whole start now (λ m. run_from t fs n es (state m ks)) ks g (λ m. ap (λ l. run_from t fs n l (state m ks)) e)

  -- a list of events was done, before others
  pub behind_step : (stands after : Machine → Type 0) (whole : NemesisRun) (start now next : Option (List ℕ)) (all es more : List Event) (n k : ℕ) (ks mid : List NumberedNemesis) → all ≡ es ++ more → k ≡ n + length es → Going line_text stands whole start now (λ m. run_from t fs n all (state m ks)) → ((m : Machine) → stands m → SinkTook line_text after (run_from t fs n es (state m ks)) now next mid) → Going line_text after whole start next (λ m. run_from t fs k more (state m mid))
  behind_step stands after whole start now next all es more n k ks mid a j g step =
      Going-step line_text stands after whole start now next (λ m. run_from t fs n es (state m ks)) (λ m. run_from t fs n all (state m ks)) (λ m. run_from t fs k more (state m mid)) mid g step
      (λ m same. run_behind t fs n k es more all m ks mid a j same)

  pub behind_front : (stands : Machine → Type 0) (whole : NemesisRun) (start now next : Option (List ℕ)) (all es more : List Event) (n : ℕ) (ks : List NumberedNemesis) → all ≡ es ++ more → Going line_text stands whole start now (λ m. run_from t fs n all (state m ks)) → ((m : Machine) → stands m → SinkTookPrefix line_text (run_from t fs n es (state m ks)) now next) → SinkTookPrefix line_text whole start next
  behind_front stands whole start now next all es more n ks a g step =
      Going-front line_text stands whole start now next (λ m. run_from t fs n es (state m ks)) (λ m. run_from t fs n all (state m ks))
      (λ m. run_from t fs (n + length es) more (run_from t fs n es (state m ks)).after) g step
      (λ m. run_behind t fs n (n + length es) es more all m ks (run_from t fs n es (state m ks)).after.kept a refl refl)
