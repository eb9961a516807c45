-- What a look at a record's bytes tells, and the last record of a step tag.
use Rattle.std.proofs.Common.{◌≡◌, ℕ, ◌-◌, List, Option, Some, None, option_map, option_and_then, Result, Ok, Err, refl, ap, ◌∙◌}
use Rattle.boki_types.specs.declared.body.Body.{Body}
use Rattle.boki_types.specs.declared.body.Body.TheVariants as b
use Rattle.boki_model.specs.Live.{Live, count}
use Rattle.boki_model.specs.Reads.{nth}
use Rattle.boki_model.specs.Bodies.{step_tag, step_of}
use Rattle.boki_model.specs.Modes.{finish_of}
use Rattle.machine_laws.specs.Ends.{last_tagged, finish_in}
use Rattle.machine_laws.proofs.Ends.{last_is_tagged}
use Rattle.rec_codec.specs.declared.looking.BodyKind.{BodyKind}
use Rattle.rec_codec.specs.declared.looking.BodyKind.TheVariants as k
use Rattle.rec_codec.specs.Looking.{kind_of}
use Rattle.book_api.specs.Books.{BookState, seen}
use Rattle.step_log.specs.Sound.{body_or_end, view}
use Rattle.step_log.proofs.Finishes.{counted}

-- what is said of a record hangs on its body alone
pub stepped : (o : Option (Live Body)) → option_and_then (λ (x : Live Body). step_of x.holds) o ≡ option_and_then step_of (option_map (λ (x : Live Body). x.holds) o)
stepped None = refl
stepped (Some x) = refl

pub kinded : (o : Option (Live Body)) → option_map (λ (x : Live Body). kind_of x.holds) o ≡ option_map kind_of (option_map (λ (x : Live Body). x.holds) o)
kinded None = refl
kinded (Some x) = refl

pub finished_at : (path : List ℕ) (o : Option (Live Body)) → option_and_then (λ (x : Live Body). finish_of path x.holds) o ≡ option_and_then (finish_of path) (option_map (λ (x : Live Body). x.holds) o)
finished_at path None = refl
finished_at path (Some x) = refl

-- a body that is no Finish tells no result
no_finish : (path : List ℕ) (body : Body) → (kind_of body ≡ k.Finish → ⊥) → finish_of path body ≡ None
no_finish path (b.Submit p f args) other = refl
no_finish path (b.Init p) other = refl
no_finish path (b.Read p i key) other = refl
no_finish path (b.Write p i place key v) other = refl
no_finish path (b.Spawn p i ordinal f args) other = refl
no_finish path (b.Join p i ordinal) other = refl
no_finish path (b.Push p i queue v) other = refl
no_finish path (b.Pop p i queue) other = refl
no_finish path (b.TxnBegin p i ns) other = refl
no_finish path (b.TxnCommit p i began ns ws) other = refl
no_finish path (b.Finish p i o) other = absurd (other refl)
no_finish path (b.SwitchBegin target) other = refl
no_finish path b.SwitchEnd other = refl
no_finish path (b.Trim w) other = refl
no_finish path (b.TrimTag number upto) other = refl
no_finish path (b.User piece) other = refl
no_finish path (b.ReadGroup p i ns) other = refl

pub no_finish_read : (found : Option BodyKind) (reading : Result Body ℕ) → ((body : Body) → reading ≡ Ok body → found ≡ Some (kind_of body)) → (found ≡ Some k.Finish → ⊥)
    → (path : List ℕ) → finish_of path (body_or_end reading) ≡ None
no_finish_read found (Ok body) looks other path = no_finish path body (λ is. other (looks body refl ∙ ap Some is))
no_finish_read found (Err left) looks other path = refl

-- the record at the last place of the step tag
finish_there : (path : List ℕ) (o : Option (Live Body)) → option_and_then (λ (x : Live Body). finish_of path x.holds) o ≡ finish_in path o
finish_there path None = refl
finish_there path (Some x) = refl

pub last_at : (path : List ℕ) (kept : BookState) (engine tag place : ℕ) → tag ≡ step_tag path → place ≡ count tag (seen kept engine) - 1
    → option_and_then (λ (x : Live Body). finish_of path x.holds) (nth tag place (view kept engine)) ≡ finish_in path (last_tagged (step_tag path) (view kept engine))
last_at path kept engine tag place is last =
    let at : place ≡ count (step_tag path) (view kept engine) - 1 = last ∙ ap (λ t. count t (seen kept engine) - 1) is ∙ ap (λ n. n - 1) (counted path kept engine) in
    finish_there path (nth tag place (view kept engine))
    ∙ ap (λ t. finish_in path (nth t place (view kept engine))) is
    ∙ ap (λ n. finish_in path (nth (step_tag path) n (view kept engine))) at
    ∙ ap (finish_in path) (last_is_tagged (step_tag path) (view kept engine)).at_place
