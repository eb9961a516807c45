-- Changes of a state, and how they are undone.
use Rattle.std.specs.Prelude.{◌-◌, Bool, cond, List, [], ◌∷◌, Option, Some, None}
use Rattle.std.specs.Map.{remove_entry}
use Rattle.std.specs.BTreeMap.{is_at}
use Rattle.boki_model.specs.Maps.{key_order}
use Rattle.ideal_run.specs.declared.kept.Queue.{Queue}
use Rattle.ideal_run.specs.declared.kept.Change.{Change}
use Rattle.ideal_run.specs.declared.kept.Change.TheVariants as c
use Rattle.ideal_run.specs.declared.state.State.{State}
use Rattle.ideal_run.specs.Kept.{Maps, maps_of}

-- the map with the first value whose key passes the test changed
abbrev pub changed_at : {K V : Type 0} → (K → Bool) → (V → V) → List (K × V) → List (K × V)
changed_at test f [] = []
changed_at test f (e ∷ es) = cond (test e.0) ((e.0, f e.1) ∷ es) (e ∷ changed_at test f es)

-- the map with the old value at a key, or without the key where it had none
abbrev pub restored : {K V : Type 0} → (K → Bool) → Option V → List (K × V) → List (K × V)
restored test None es = remove_entry test es
restored test (Some v) es = changed_at test (λ _. v) es

-- a list without its last element
abbrev pub but_last : {X : Type 0} → List X → List X
but_last [] = []
but_last (x ∷ []) = []
but_last (x ∷ y ∷ ys) = x ∷ but_last (y ∷ ys)

abbrev pub unpushed : Queue → Queue
unpushed q = record q { values = but_last q.values }

abbrev pub unpopped : Queue → Queue
unpopped q = record q { front = q.front - 1 }

-- the maps before a change
abbrev pub reverted : Change → Maps → Maps
reverted (c.Object key old) m = record m { objects = restored (is_at (key_order key)) old m.objects }
reverted (c.Opened queue) m = record m { queues = remove_entry (is_at (key_order queue)) m.queues }
reverted (c.Pushed queue) m = record m { queues = changed_at (is_at (key_order queue)) unpushed m.queues }
reverted (c.Popped queue) m = record m { queues = changed_at (is_at (key_order queue)) unpopped m.queues }
reverted (c.Name name old) m = record m { names = restored (is_at (key_order name)) old m.names }
reverted (c.Commits n) m = record m { commits = n }
reverted (c.Child path old) m = record m { invocations = restored (is_at (key_order path)) old m.invocations }

-- the maps before these changes, of which the newest stands last
abbrev pub undone : List Change → Maps → Maps
undone [] m = m
undone (x ∷ xs) m = reverted x (undone xs m)

-- what a state kept before the changes in its log
abbrev pub maps_before : State → Maps
maps_before s = undone s.log.items (maps_of s)
