-- References with their frequencies, put into an object one after the other.
use Rattle.std.proofs.Common.{◌≡◌, ℕ, List, [], ◌∷◌, ◌++◌, refl, ap, ◌∙◌, arith, Less, Greater}
use Rattle.std.specs.Prelude.{T}
use Rattle.std.specs.Ordering.{ordering_reverse}
use Rattle.std.specs.FinMap.Entries.{is_sorted, below_all}
use Rattle.std.proofs.lemmas.Cmp.{nat_list_cmp_total}
use Rattle.serde_json.specs.Data.{put, member}
use Rattle.elasticlunr_error.specs.Text.{Bytes, text_cmp}
use Rattle.elasticlunr_trie_nodes.proofs.Naming.{below_at, first_of, second_of}
use Rattle.elasticlunr_trie.specs.Tree.{frequency, frequencies}

below_middle : (x : Bytes) (done : List (Bytes × ℕ)) (e : Bytes × ℕ) (more : List (Bytes × ℕ))
    → T (below_all text_cmp x (done ++ e ∷ more)) → text_cmp x e.0 ≡ Less
below_middle x [] e more h = below_at x (e ∷ more) h 0 (omega arith)
below_middle x (d ∷ done) e more h = below_middle x done e more (second_of _ _ h)

-- a name above those before it goes last
pub put_behind_all : (done : List (Bytes × ℕ)) (e : Bytes × ℕ) (more : List (Bytes × ℕ))
    → T (is_sorted text_cmp (done ++ e ∷ more)) → put e.0 (frequency e.1) (frequencies done)
    ≡ frequencies (done ++ e ∷ [])
put_behind_all [] e more h = refl
put_behind_all (d ∷ done) e more h =
    let above : text_cmp e.0 d.0 ≡ Greater = nat_list_cmp_total.antisymm e.0 d.0
    ∙ ap ordering_reverse (below_middle d.0 done e more (first_of _ _ h)) in
    rw above (ap (member d.0 (frequency d.1)) (put_behind_all done e more (second_of _ _ h)))
