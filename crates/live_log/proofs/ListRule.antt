-- Each step keeps the rule over the published list.
use Rattle.std.proofs.Common.{◌≡◌, ◌≢◌, ℕ, List, [], ◌∷◌, ◌++◌, set, Option, Some, None, IsSome, refl, sym, ap, ◌∙◌, subst, ⊎_elim}
use mathlib.Core.Option.{some}
use mathlib.Core.List.{IsPrefix}
use lib.ListN.{get_elem?}
use Rattle.crossbeam_utils.specs.Register.{Admits, TurnsAt, Turns, Forks, Merges}
use Rattle.atomic_table.proofs.Lists.{at_set, at_snoc}
use Rattle.live_log.specs.History.{HistoryPrefix}
use Rattle.live_log.specs.declared.published_list.ListState.{ListState}
use Rattle.live_log.specs.declared.published_list.Step.{Step}
use Rattle.live_log.specs.ListRule.{CoversSeen, ListRuleHolds, SeesState, joined_view, applied}
use Rattle.live_log.specs.WriterAndReader.{book_seen}
use Rattle.live_log.proofs.Lists.{prefix_self, prefix_trans}

-- x goes on to y, in the same history
abbrev pub Goes : HistoryPrefix → HistoryPrefix → Type 0
Goes x y = (x.book ≡ y.book) × IsPrefix x.log y.log

fits_longer : (x y : HistoryPrefix) (v : Option HistoryPrefix) → CoversSeen x v → Goes x y → CoversSeen y v
fits_longer x y None f p = tt
fits_longer x y (Some k) f p = (f.0 ∙ p.0, prefix_trans k.log x.log y.log f.1 p.1)

pub fits_book : (x : HistoryPrefix) (v : Option HistoryPrefix) → IsSome v → CoversSeen x v → book_seen v ≡ x.book
fits_book x None s f = absurd (cc s)
fits_book x (Some k) s f = f.0

keeps_set : (x : ListState) (views : List (Option HistoryPrefix)) (seat : ℕ) (w : Option HistoryPrefix) → ListRuleHolds x views → CoversSeen x.prefix w → ListRuleHolds x (set views seat w)
keeps_set x views seat w h f = (h.0, λ j u e. ⊎_elim (λ (t : (j ≡ seat) × (w ≡ u)). subst (λ (z : Option HistoryPrefix). CoversSeen x.prefix z) t.1 f) (λ (t : (j ≢ seat) × (get_elem? views j ≡ some u)). h.1 j u t.1) (at_set views seat j w u e))

keeps_snoc : (x : ListState) (views : List (Option HistoryPrefix)) (w : Option HistoryPrefix) → ListRuleHolds x views → CoversSeen x.prefix w → ListRuleHolds x (views ++ w ∷ [])
keeps_snoc x views w h f = (h.0, λ j u e. ⊎_elim (h.1 j u) (λ (same : w ≡ u). subst (λ (z : Option HistoryPrefix). CoversSeen x.prefix z) same f) (at_snoc views w u j e))

pub admits : Admits ListRuleHolds None
admits x views h = keeps_snoc x views None h tt

pub begins : (x : ListState) → x.list ≡ x.prefix.log → ListRuleHolds x (None ∷ [])
begins x is = keeps_snoc x [] None (is, λ j u e. absurd (cc e)) tt

pub rises : (seat : ℕ) (v : Option HistoryPrefix) (x y : ListState) → (x.list ≡ x.prefix.log → y.list ≡ y.prefix.log) → Goes x.prefix y.prefix → TurnsAt ListRuleHolds seat v x y SeesState
rises seat v x y is p views h at =
    let whole : y.list ≡ y.prefix.log = is h.0 in
    let f : CoversSeen y.prefix v = fits_longer x.prefix y.prefix v (h.1 seat v at) p in
    let longer : ListRuleHolds y views = (whole, λ j u e. fits_longer x.prefix y.prefix u (h.1 j u e) p) in
    (Some y.prefix, keeps_set y views seat (Some y.prefix) longer (refl, prefix_self y.prefix.log), (refl, whole, f))

pub looks : (seat : ℕ) (v : Option HistoryPrefix) → Turns ListRuleHolds seat v (λ x. x) SeesState
looks seat v x = rises seat v x x (λ e. e) (refl, prefix_self x.prefix.log)

pub forks : (seat : ℕ) (v : Option HistoryPrefix) → Forks ListRuleHolds seat v v v
forks seat v x views h at = keeps_snoc x (set views seat v) v (keeps_set x views seat v h (h.1 seat v at)) (h.1 seat v at)

pub merges : (seat : ℕ) (v : Option HistoryPrefix) (other : ℕ) (w : Option HistoryPrefix) → Merges ListRuleHolds seat v other w (joined_view v w) None
merges seat v other w x views h at apart there =
    let note : CoversSeen x.prefix w = ⊎_elim (λ (t : (other ≡ seat) × (w ≡ w)). absurd (apart t.0)) (λ (t : (other ≢ seat) × (get_elem? views other ≡ some w)). h.1 other w t.1) (at_set views seat other w w there) in
    keeps_set x (set views seat w) other None (keeps_set x views seat w h note) tt

-- one step more is published
pub publishes : (seat : ℕ) (v : Option HistoryPrefix) (x next : ListState) (s : Step) → next ≡ applied x s → s.prefix ≡ record { book = x.prefix.book; log = x.prefix.log ++ s.item ∷ [] } → TurnsAt ListRuleHolds seat v x next SeesState
publishes seat v x next s n f =
    let prefix : next.prefix ≡ record { book = x.prefix.book; log = x.prefix.log ++ s.item ∷ [] } = ap (λ (r : ListState). r.prefix) n ∙ f in
    rises seat v x next (λ e. ap (λ (r : ListState). r.list) n ∙ ap (λ l. l ++ s.item ∷ []) e ∙ sym (ap (λ (k : HistoryPrefix). k.log) prefix)) (sym (ap (λ (k : HistoryPrefix). k.book) prefix), (s.item ∷ [], sym (ap (λ (k : HistoryPrefix). k.log) prefix)))

-- the same list is published again
pub again : (seat : ℕ) (v : Option HistoryPrefix) (x next : ListState) → next ≡ x → TurnsAt ListRuleHolds seat v x next SeesState
again seat v x next n = subst (λ (y : ListState). TurnsAt ListRuleHolds seat v x y SeesState) (sym n) (looks seat v x)
