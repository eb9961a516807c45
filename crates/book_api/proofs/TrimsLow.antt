-- A trimmed tag that bytes spell is a user's.
use Rattle.std.proofs.Common.{◌≡◌, ℕ, suc, ◌^◌, ◌<◌, Bool, true, false, cond, eqb, ltb, leb, List, [], ◌∷◌, length, Some, None, Result, Ok, Err, refl, ap, subst}
use Rattle.std.proofs.lemmas.Bool.{ltb-true}
use Rattle.boki_types.specs.declared.body.Body.{Body}
use Rattle.boki_types.specs.declared.body.Body.TheVariants as b
use Rattle.rec_codec.specs.Reading.{◌>>=◌, validated, whole, body_at, format1_at, format2_at, submit_at, init_at, read_at, named_write_at, spawned_at, join_at, push_at, pop_at, begin_at, commit_at, finish_at, switch_at, trim_at, trim_tag_at, user_at, inline_write_at, group_at, tag_at, word_at, path_at, index_at, text_at, list_at, ordinal_at, value_at, outcome_at, target_at, write_at, is_key, is_function}
use Rattle.book_api.specs.Books.{trim_of_read, trim_of_bytes}

-- a body that is a trimmed tag's is of a user's tag
abbrev IsLow : Body → Type 0
IsLow (b.TrimTag number upto) = number < 2 ^ 56
IsLow _ = Unit {0}

abbrev Low : Result (Body × List ℕ) ℕ → Type 0
Low (Ok x) = IsLow x.0
Low (Err left) = Unit {0}

abbrev made : Body → List ℕ → Result (Body × List ℕ) ℕ
made body rest = Ok (body, rest)

low_bind : {A : Type 0} (r : Result (A × List ℕ) ℕ) (f : A × List ℕ → Result (Body × List ℕ) ℕ) → ((x : A × List ℕ) → Low (f x)) → Low (r >>= f)
low_bind (Ok x) f low = low x
low_bind (Err left) f low = tt

low_cond : (t : Bool) (x y : Result (Body × List ℕ) ℕ) → Low x → Low y → Low (cond t x y)
low_cond true x y p q = p
low_cond false x y p q = q

low_submit_at : (bytes : List ℕ) → Low (submit_at bytes)
unfolding submit_at
low_submit_at bytes = low_bind (path_at 1 bytes) (λ x. text_at is_function x.1 >>= λ y. list_at 0 value_at y.1 >>= λ z. made (b.Submit x.0 y.0 z.0) z.1) (λ x. low_bind (text_at is_function x.1) (λ y. list_at 0 value_at y.1 >>= λ z. made (b.Submit x.0 y.0 z.0) z.1) (λ y. low_bind (list_at 0 value_at y.1) (λ z. made (b.Submit x.0 y.0 z.0) z.1) (λ z. tt)))

low_init_at : (bytes : List ℕ) → Low (init_at bytes)
unfolding init_at
low_init_at bytes = low_bind (path_at 4 bytes) (λ x. made (b.Init x.0) x.1) (λ x. tt)

low_read_at : (bytes : List ℕ) → Low (read_at bytes)
unfolding read_at
low_read_at bytes = low_bind (path_at 4 bytes) (λ x. index_at x.1 >>= λ y. text_at is_key y.1 >>= λ z. made (b.Read x.0 y.0 z.0) z.1) (λ x. low_bind (index_at x.1) (λ y. text_at is_key y.1 >>= λ z. made (b.Read x.0 y.0 z.0) z.1) (λ y. low_bind (text_at is_key y.1) (λ z. made (b.Read x.0 y.0 z.0) z.1) (λ z. tt)))

low_named_write_at : (bytes : List ℕ) → Low (named_write_at bytes)
unfolding named_write_at
low_named_write_at bytes = low_bind (path_at 4 bytes) (λ x. index_at x.1 >>= λ y. word_at y.1 >>= λ z. text_at is_key z.1 >>= λ u. made (b.Write x.0 y.0 z.0 u.0 None) u.1) (λ x. low_bind (index_at x.1) (λ y. word_at y.1 >>= λ z. text_at is_key z.1 >>= λ u. made (b.Write x.0 y.0 z.0 u.0 None) u.1) (λ y. low_bind (word_at y.1) (λ z. text_at is_key z.1 >>= λ u. made (b.Write x.0 y.0 z.0 u.0 None) u.1) (λ z. low_bind (text_at is_key z.1) (λ u. made (b.Write x.0 y.0 z.0 u.0 None) u.1) (λ u. tt))))

low_inline_write_at : (bytes : List ℕ) → Low (inline_write_at bytes)
unfolding inline_write_at
low_inline_write_at bytes = low_bind (path_at 4 bytes) (λ x. index_at x.1 >>= λ y. word_at y.1 >>= λ z. text_at is_key z.1 >>= λ u. value_at u.1 >>= λ v. made (b.Write x.0 y.0 z.0 u.0 (Some v.0)) v.1) (λ x. low_bind (index_at x.1) (λ y. word_at y.1 >>= λ z. text_at is_key z.1 >>= λ u. value_at u.1 >>= λ v. made (b.Write x.0 y.0 z.0 u.0 (Some v.0)) v.1) (λ y. low_bind (word_at y.1) (λ z. text_at is_key z.1 >>= λ u. value_at u.1 >>= λ v. made (b.Write x.0 y.0 z.0 u.0 (Some v.0)) v.1) (λ z. low_bind (text_at is_key z.1) (λ u. value_at u.1 >>= λ v. made (b.Write x.0 y.0 z.0 u.0 (Some v.0)) v.1) (λ u. low_bind (value_at u.1) (λ v. made (b.Write x.0 y.0 z.0 u.0 (Some v.0)) v.1) (λ v. tt)))))

low_spawned_at : (bytes : List ℕ) → Low (spawned_at bytes)
unfolding spawned_at
low_spawned_at bytes = low_bind (path_at 3 bytes) (λ x. index_at x.1 >>= λ y. ordinal_at y.1 >>= λ z. text_at is_function z.1 >>= λ u. list_at 0 value_at u.1 >>= λ v. made (b.Spawn x.0 y.0 z.0 u.0 v.0) v.1) (λ x. low_bind (index_at x.1) (λ y. ordinal_at y.1 >>= λ z. text_at is_function z.1 >>= λ u. list_at 0 value_at u.1 >>= λ v. made (b.Spawn x.0 y.0 z.0 u.0 v.0) v.1) (λ y. low_bind (ordinal_at y.1) (λ z. text_at is_function z.1 >>= λ u. list_at 0 value_at u.1 >>= λ v. made (b.Spawn x.0 y.0 z.0 u.0 v.0) v.1) (λ z. low_bind (text_at is_function z.1) (λ u. list_at 0 value_at u.1 >>= λ v. made (b.Spawn x.0 y.0 z.0 u.0 v.0) v.1) (λ u. low_bind (list_at 0 value_at u.1) (λ v. made (b.Spawn x.0 y.0 z.0 u.0 v.0) v.1) (λ v. tt)))))

low_join_at : (bytes : List ℕ) → Low (join_at bytes)
unfolding join_at
low_join_at bytes = low_bind (path_at 4 bytes) (λ x. index_at x.1 >>= λ y. ordinal_at y.1 >>= λ z. made (b.Join x.0 y.0 z.0) z.1) (λ x. low_bind (index_at x.1) (λ y. ordinal_at y.1 >>= λ z. made (b.Join x.0 y.0 z.0) z.1) (λ y. low_bind (ordinal_at y.1) (λ z. made (b.Join x.0 y.0 z.0) z.1) (λ z. tt)))

low_push_at : (bytes : List ℕ) → Low (push_at bytes)
unfolding push_at
low_push_at bytes = low_bind (path_at 4 bytes) (λ x. index_at x.1 >>= λ y. text_at is_key y.1 >>= λ z. value_at z.1 >>= λ u. made (b.Push x.0 y.0 z.0 u.0) u.1) (λ x. low_bind (index_at x.1) (λ y. text_at is_key y.1 >>= λ z. value_at z.1 >>= λ u. made (b.Push x.0 y.0 z.0 u.0) u.1) (λ y. low_bind (text_at is_key y.1) (λ z. value_at z.1 >>= λ u. made (b.Push x.0 y.0 z.0 u.0) u.1) (λ z. low_bind (value_at z.1) (λ u. made (b.Push x.0 y.0 z.0 u.0) u.1) (λ u. tt))))

low_pop_at : (bytes : List ℕ) → Low (pop_at bytes)
unfolding pop_at
low_pop_at bytes = low_bind (path_at 4 bytes) (λ x. index_at x.1 >>= λ y. text_at is_key y.1 >>= λ z. made (b.Pop x.0 y.0 z.0) z.1) (λ x. low_bind (index_at x.1) (λ y. text_at is_key y.1 >>= λ z. made (b.Pop x.0 y.0 z.0) z.1) (λ y. low_bind (text_at is_key y.1) (λ z. made (b.Pop x.0 y.0 z.0) z.1) (λ z. tt)))

low_begin_at : (bytes : List ℕ) → Low (begin_at bytes)
unfolding begin_at
low_begin_at bytes = low_bind (path_at 4 bytes) (λ x. index_at x.1 >>= λ y. list_at 1 (text_at is_key) y.1 >>= λ z. made (b.TxnBegin x.0 y.0 z.0) z.1) (λ x. low_bind (index_at x.1) (λ y. list_at 1 (text_at is_key) y.1 >>= λ z. made (b.TxnBegin x.0 y.0 z.0) z.1) (λ y. low_bind (list_at 1 (text_at is_key) y.1) (λ z. made (b.TxnBegin x.0 y.0 z.0) z.1) (λ z. tt)))

low_commit_at : (bytes : List ℕ) → Low (commit_at bytes)
unfolding commit_at
low_commit_at bytes = low_bind (path_at 4 bytes) (λ x. index_at x.1 >>= λ y. word_at y.1 >>= λ z. list_at 1 (text_at is_key) z.1 >>= λ u. list_at 0 write_at u.1 >>= λ v. made (b.TxnCommit x.0 y.0 z.0 u.0 v.0) v.1) (λ x. low_bind (index_at x.1) (λ y. word_at y.1 >>= λ z. list_at 1 (text_at is_key) z.1 >>= λ u. list_at 0 write_at u.1 >>= λ v. made (b.TxnCommit x.0 y.0 z.0 u.0 v.0) v.1) (λ y. low_bind (word_at y.1) (λ z. list_at 1 (text_at is_key) z.1 >>= λ u. list_at 0 write_at u.1 >>= λ v. made (b.TxnCommit x.0 y.0 z.0 u.0 v.0) v.1) (λ z. low_bind (list_at 1 (text_at is_key) z.1) (λ u. list_at 0 write_at u.1 >>= λ v. made (b.TxnCommit x.0 y.0 z.0 u.0 v.0) v.1) (λ u. low_bind (list_at 0 write_at u.1) (λ v. made (b.TxnCommit x.0 y.0 z.0 u.0 v.0) v.1) (λ v. tt)))))

low_finish_at : (bytes : List ℕ) → Low (finish_at bytes)
unfolding finish_at
low_finish_at bytes = low_bind (path_at 4 bytes) (λ x. index_at x.1 >>= λ y. outcome_at y.1 >>= λ z. made (b.Finish x.0 y.0 z.0) z.1) (λ x. low_bind (index_at x.1) (λ y. outcome_at y.1 >>= λ z. made (b.Finish x.0 y.0 z.0) z.1) (λ y. low_bind (outcome_at y.1) (λ z. made (b.Finish x.0 y.0 z.0) z.1) (λ z. tt)))

low_switch_at : (bytes : List ℕ) → Low (switch_at bytes)
unfolding switch_at
low_switch_at bytes = low_bind (target_at bytes) (λ x. made (b.SwitchBegin x.0) x.1) (λ x. tt)

low_trim_at : (bytes : List ℕ) → Low (trim_at bytes)
unfolding trim_at
low_trim_at bytes = low_bind (word_at bytes) (λ x. made (b.Trim x.0) x.1) (λ x. tt)

low_user_at : (bytes : List ℕ) → Low (user_at bytes)
unfolding user_at
low_user_at bytes = low_bind (text_at (λ t. leb (length t) 4092) bytes) (λ x. made (b.User x.0) x.1) (λ x. tt)

low_group_at : (bytes : List ℕ) → Low (group_at bytes)
unfolding group_at
low_group_at bytes = low_bind (path_at 4 bytes) (λ x. index_at x.1 >>= λ y. list_at 1 (text_at is_key) y.1 >>= λ z. made (b.ReadGroup x.0 y.0 z.0) z.1) (λ x. low_bind (index_at x.1) (λ y. list_at 1 (text_at is_key) y.1 >>= λ z. made (b.ReadGroup x.0 y.0 z.0) z.1) (λ y. low_bind (list_at 1 (text_at is_key) y.1) (λ z. made (b.ReadGroup x.0 y.0 z.0) z.1) (λ z. tt)))

-- the one kind that tells a trimmed tag tests it
low_number : (r : Result (ℕ × List ℕ) ℕ) (bytes : List ℕ) → Low (validated (λ n. ltb n (2 ^ 56)) bytes r >>= λ x. word_at x.1 >>= λ y. made (b.TrimTag x.0 y.0) y.1)
low_number (Err left) bytes = tt
low_number (Ok x) bytes = at (ltb x.0 (2 ^ 56)) refl
  where
    first : (o : Result (ℕ × List ℕ) ℕ) → x.0 < 2 ^ 56 → Low (o >>= λ y. made (b.TrimTag x.0 y.0) y.1)
    first (Ok y) low = low
    first (Err left) low = tt

    known : Result (ℕ × List ℕ) ℕ
    known = Ok x

    at : (t : Bool) → ltb x.0 (2 ^ 56) ≡ t → Low (cond t known (Err (length bytes)) >>= λ x. word_at x.1 >>= λ y. made (b.TrimTag x.0 y.0) y.1)
    at true is = first (word_at x.1) (ltb-true x.0 (2 ^ 56) is)
    at false is = tt

low_trim_tag_at : (bytes : List ℕ) → Low (trim_tag_at bytes)
unfolding trim_tag_at tag_at
low_trim_tag_at bytes = low_number (word_at bytes) bytes

low_plain : (bytes : List ℕ) → Low (format1_at bytes)
unfolding format1_at
low_plain [] = tt
low_plain (kind ∷ rest) =
    low_cond (eqb kind 1) (submit_at rest) (cond (eqb kind 2) (init_at rest) (cond (eqb kind 3) (read_at rest) (cond (eqb kind 4) (named_write_at rest) (cond (eqb kind 5) (spawned_at rest) (cond (eqb kind 6) (join_at rest) (cond (eqb kind 7) (push_at rest) (cond (eqb kind 8) (pop_at rest) (cond (eqb kind 9) (begin_at rest) (cond (eqb kind 10) (commit_at rest) (cond (eqb kind 11) (finish_at rest) (cond (eqb kind 12) (switch_at rest) (cond (eqb kind 13) (made b.SwitchEnd rest) (cond (eqb kind 14) (trim_at rest) (cond (eqb kind 15) (trim_tag_at rest) (cond (eqb kind 16) (user_at rest) (Err (suc (length rest)))))))))))))))))) (low_submit_at rest)
    (low_cond (eqb kind 2) (init_at rest) (cond (eqb kind 3) (read_at rest) (cond (eqb kind 4) (named_write_at rest) (cond (eqb kind 5) (spawned_at rest) (cond (eqb kind 6) (join_at rest) (cond (eqb kind 7) (push_at rest) (cond (eqb kind 8) (pop_at rest) (cond (eqb kind 9) (begin_at rest) (cond (eqb kind 10) (commit_at rest) (cond (eqb kind 11) (finish_at rest) (cond (eqb kind 12) (switch_at rest) (cond (eqb kind 13) (made b.SwitchEnd rest) (cond (eqb kind 14) (trim_at rest) (cond (eqb kind 15) (trim_tag_at rest) (cond (eqb kind 16) (user_at rest) (Err (suc (length rest))))))))))))))))) (low_init_at rest)
    (low_cond (eqb kind 3) (read_at rest) (cond (eqb kind 4) (named_write_at rest) (cond (eqb kind 5) (spawned_at rest) (cond (eqb kind 6) (join_at rest) (cond (eqb kind 7) (push_at rest) (cond (eqb kind 8) (pop_at rest) (cond (eqb kind 9) (begin_at rest) (cond (eqb kind 10) (commit_at rest) (cond (eqb kind 11) (finish_at rest) (cond (eqb kind 12) (switch_at rest) (cond (eqb kind 13) (made b.SwitchEnd rest) (cond (eqb kind 14) (trim_at rest) (cond (eqb kind 15) (trim_tag_at rest) (cond (eqb kind 16) (user_at rest) (Err (suc (length rest)))))))))))))))) (low_read_at rest)
    (low_cond (eqb kind 4) (named_write_at rest) (cond (eqb kind 5) (spawned_at rest) (cond (eqb kind 6) (join_at rest) (cond (eqb kind 7) (push_at rest) (cond (eqb kind 8) (pop_at rest) (cond (eqb kind 9) (begin_at rest) (cond (eqb kind 10) (commit_at rest) (cond (eqb kind 11) (finish_at rest) (cond (eqb kind 12) (switch_at rest) (cond (eqb kind 13) (made b.SwitchEnd rest) (cond (eqb kind 14) (trim_at rest) (cond (eqb kind 15) (trim_tag_at rest) (cond (eqb kind 16) (user_at rest) (Err (suc (length rest))))))))))))))) (low_named_write_at rest)
    (low_cond (eqb kind 5) (spawned_at rest) (cond (eqb kind 6) (join_at rest) (cond (eqb kind 7) (push_at rest) (cond (eqb kind 8) (pop_at rest) (cond (eqb kind 9) (begin_at rest) (cond (eqb kind 10) (commit_at rest) (cond (eqb kind 11) (finish_at rest) (cond (eqb kind 12) (switch_at rest) (cond (eqb kind 13) (made b.SwitchEnd rest) (cond (eqb kind 14) (trim_at rest) (cond (eqb kind 15) (trim_tag_at rest) (cond (eqb kind 16) (user_at rest) (Err (suc (length rest)))))))))))))) (low_spawned_at rest)
    (low_cond (eqb kind 6) (join_at rest) (cond (eqb kind 7) (push_at rest) (cond (eqb kind 8) (pop_at rest) (cond (eqb kind 9) (begin_at rest) (cond (eqb kind 10) (commit_at rest) (cond (eqb kind 11) (finish_at rest) (cond (eqb kind 12) (switch_at rest) (cond (eqb kind 13) (made b.SwitchEnd rest) (cond (eqb kind 14) (trim_at rest) (cond (eqb kind 15) (trim_tag_at rest) (cond (eqb kind 16) (user_at rest) (Err (suc (length rest))))))))))))) (low_join_at rest)
    (low_cond (eqb kind 7) (push_at rest) (cond (eqb kind 8) (pop_at rest) (cond (eqb kind 9) (begin_at rest) (cond (eqb kind 10) (commit_at rest) (cond (eqb kind 11) (finish_at rest) (cond (eqb kind 12) (switch_at rest) (cond (eqb kind 13) (made b.SwitchEnd rest) (cond (eqb kind 14) (trim_at rest) (cond (eqb kind 15) (trim_tag_at rest) (cond (eqb kind 16) (user_at rest) (Err (suc (length rest)))))))))))) (low_push_at rest)
    (low_cond (eqb kind 8) (pop_at rest) (cond (eqb kind 9) (begin_at rest) (cond (eqb kind 10) (commit_at rest) (cond (eqb kind 11) (finish_at rest) (cond (eqb kind 12) (switch_at rest) (cond (eqb kind 13) (made b.SwitchEnd rest) (cond (eqb kind 14) (trim_at rest) (cond (eqb kind 15) (trim_tag_at rest) (cond (eqb kind 16) (user_at rest) (Err (suc (length rest))))))))))) (low_pop_at rest)
    (low_cond (eqb kind 9) (begin_at rest) (cond (eqb kind 10) (commit_at rest) (cond (eqb kind 11) (finish_at rest) (cond (eqb kind 12) (switch_at rest) (cond (eqb kind 13) (made b.SwitchEnd rest) (cond (eqb kind 14) (trim_at rest) (cond (eqb kind 15) (trim_tag_at rest) (cond (eqb kind 16) (user_at rest) (Err (suc (length rest)))))))))) (low_begin_at rest)
    (low_cond (eqb kind 10) (commit_at rest) (cond (eqb kind 11) (finish_at rest) (cond (eqb kind 12) (switch_at rest) (cond (eqb kind 13) (made b.SwitchEnd rest) (cond (eqb kind 14) (trim_at rest) (cond (eqb kind 15) (trim_tag_at rest) (cond (eqb kind 16) (user_at rest) (Err (suc (length rest))))))))) (low_commit_at rest)
    (low_cond (eqb kind 11) (finish_at rest) (cond (eqb kind 12) (switch_at rest) (cond (eqb kind 13) (made b.SwitchEnd rest) (cond (eqb kind 14) (trim_at rest) (cond (eqb kind 15) (trim_tag_at rest) (cond (eqb kind 16) (user_at rest) (Err (suc (length rest)))))))) (low_finish_at rest)
    (low_cond (eqb kind 12) (switch_at rest) (cond (eqb kind 13) (made b.SwitchEnd rest) (cond (eqb kind 14) (trim_at rest) (cond (eqb kind 15) (trim_tag_at rest) (cond (eqb kind 16) (user_at rest) (Err (suc (length rest))))))) (low_switch_at rest)
    (low_cond (eqb kind 13) (made b.SwitchEnd rest) (cond (eqb kind 14) (trim_at rest) (cond (eqb kind 15) (trim_tag_at rest) (cond (eqb kind 16) (user_at rest) (Err (suc (length rest)))))) tt
    (low_cond (eqb kind 14) (trim_at rest) (cond (eqb kind 15) (trim_tag_at rest) (cond (eqb kind 16) (user_at rest) (Err (suc (length rest))))) (low_trim_at rest)
    (low_cond (eqb kind 15) (trim_tag_at rest) (cond (eqb kind 16) (user_at rest) (Err (suc (length rest)))) (low_trim_tag_at rest)
    (low_cond (eqb kind 16) (user_at rest) (Err (suc (length rest))) (low_user_at rest)
    (tt))))))))))))))))

low_later : (bytes : List ℕ) → Low (format2_at bytes)
unfolding format2_at
low_later [] = tt
low_later (kind ∷ rest) =
    low_cond (eqb kind 4) (inline_write_at rest) (cond (eqb kind 17) (group_at rest) (Err (suc (length rest)))) (low_inline_write_at rest)
    (low_cond (eqb kind 17) (group_at rest) (Err (suc (length rest))) (low_group_at rest) tt)

low_body : (bytes : List ℕ) → Low (body_at bytes)
unfolding body_at
low_body [] = tt
low_body (format ∷ rest) =
    low_cond (eqb format 1) (format1_at rest) (cond (eqb format 2) (format2_at rest) (Err (suc (length rest)))) (low_plain rest)
    (low_cond (eqb format 2) (format2_at rest) (Err (suc (length rest))) (low_later rest) tt)

low_told : (body : Body) (t : ℕ × ℕ) → IsLow body → trim_of_read (Ok body) ≡ Some t → t.0 < 2 ^ 56
low_told (b.TrimTag number upto) t low is = let e : number ≡ t.0 = (let same : number ≡ t.0 = ap first (let f : (number, upto) ≡ t = cc in f) in same) in subst (λ n. n < 2 ^ 56) e low
  where
    first : ℕ × ℕ → ℕ
    first p = p.0
low_told (b.Submit p f args) t low is = cc
low_told (b.Init p) t low is = cc
low_told (b.Read p i key) t low is = cc
low_told (b.Write p i place key v) t low is = cc
low_told (b.Spawn p i ordinal f args) t low is = cc
low_told (b.Join p i ordinal) t low is = cc
low_told (b.Push p i queue v) t low is = cc
low_told (b.Pop p i queue) t low is = cc
low_told (b.TxnBegin p i ns) t low is = cc
low_told (b.TxnCommit p i began ns ws) t low is = cc
low_told (b.Finish p i o) t low is = cc
low_told (b.SwitchBegin target) t low is = cc
low_told (b.Trim w) t low is = cc
low_told (b.User piece) t low is = cc
low_told (b.ReadGroup p i ns) t low is = cc
low_told b.SwitchEnd t low is = cc

low_whole : (total : ℕ) (r : Result (Body × List ℕ) ℕ) (t : ℕ × ℕ) → Low r → trim_of_read (whole total r) ≡ Some t → t.0 < 2 ^ 56
low_whole total (Ok (body, [])) t low is = low_told body t low is
low_whole total (Ok (body, c ∷ rest)) t low is = cc
low_whole total (Err left) t low is = cc

pub trim_low : (bytes : List ℕ) (t : ℕ × ℕ) → trim_of_bytes bytes ≡ Some t → t.0 < 2 ^ 56
trim_low bytes t is = low_whole (length bytes) (body_at bytes) t (low_body bytes) is
