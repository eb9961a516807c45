-- The call of a path, by the first record of its call tag.
use Rattle.std.proofs.Common.{◌≡◌, ℕ, List, [], ◌∷◌, map, Option, Some, None, option_map, option_and_then, refl, sym, ap, ◌∙◌}
use Rattle.std.specs.List.{AllByRecursion}
use Rattle.lb_base.specs.Path.{IsPath}
use Rattle.lb_base.specs.declared.value.Seqnum.{Seqnum}
use Rattle.lb_base.specs.declared.value.Record.{Record}
use Rattle.boki_types.specs.declared.body.Body.{Body}
use Rattle.boki_model.specs.Live.{Live}
use Rattle.boki_model.specs.Bodies.{call_tag}
use Rattle.boki_model.specs.Reads.{nth}
use Rattle.boki_model.specs.Order.{order}
use Rattle.boki_machine.specs.Attempt.{call_in, call_of}
use Rattle.exactly_once.specs.FurtherLaws.StepRecords.{IsWellFormed, IsWellFormedLive}
use Rattle.log_folds.specs.Decoded.{decoded_record, decoded_shards}
use Rattle.log_folds.proofs.Own.{own_paths_live, own_paths_stay, ranged_paths}
use Rattle.log_folds.proofs.Calls.{call_is_first}
use Rattle.log_folds.proofs.Each.{each_ordered}
use Rattle.book_api.specs.Books.{BookState, position}
use Rattle.step_log.specs.Sound.{body_of, bodies, live_bodies, view, seqnum_and_body, IsSpelled, Sound}

own_record : (r : Record) → IsSpelled r → IsWellFormed (decoded_record body_of r)
own_record r s = record { tags = s.tags; paths = ranged_paths (body_of r.bytes) s.range }

own_shard : (rs : List Record) → AllByRecursion IsSpelled rs → AllByRecursion IsWellFormed (map (decoded_record body_of) rs)
own_shard [] all = tt
own_shard (r ∷ rs) all = (own_record r all.0, own_shard rs all.1)

own_shards : (shards : List (List Record)) → AllByRecursion (AllByRecursion IsSpelled) shards → AllByRecursion (AllByRecursion IsWellFormed) (decoded_shards body_of shards)
own_shards [] all = tt
own_shards (s ∷ ss) all = (own_shard s all.0, own_shards ss all.1)

-- what an engine sees of a sound book has its own tags
pub own_view : (kept : BookState) (engine : ℕ) → Sound kept → AllByRecursion IsWellFormedLive (view kept engine)
own_view kept engine sound =
    (own_paths_stay (live_bodies kept) (own_paths_live (order (bodies kept) kept.vectors) (each_ordered IsWellFormed (bodies kept) kept.vectors (own_shards kept.shards sound)))).seen (position kept engine)

told_call : (path : List ℕ) (o : Option (Live Body)) → option_and_then (λ x. call_in path x.holds) o ≡ option_and_then (λ (f : Seqnum × Body). call_in path f.1) (option_map seqnum_and_body o)
told_call path None = refl
told_call path (Some x) = refl

pub call_found : (path : List ℕ) (kept : BookState) (engine tag : ℕ) (found : Option (Seqnum × Body)) → IsPath path → Sound kept → tag ≡ call_tag path
    → found ≡ option_map seqnum_and_body (nth tag 0 (view kept engine)) → option_and_then (λ (f : Seqnum × Body). call_in path f.1) found ≡ call_of path (view kept engine)
call_found path kept engine tag found ok sound is at =
    ap (option_and_then (λ (f : Seqnum × Body). call_in path f.1)) (at ∙ ap (λ t. option_map seqnum_and_body (nth t 0 (view kept engine))) is)
    ∙ sym (told_call path (nth (call_tag path) 0 (view kept engine)))
    ∙ sym (call_is_first path (view kept engine) ok (own_view kept engine sound))
