-- Tokens of which a beginning has been walked.
use Rattle.std.proofs.Common.{◌≡◌, ℕ, suc, ◌+◌, ◌<◌, Bor, List, [], ◌∷◌, ◌++◌, map, length, take, drop, All, refl, sym}
use Rattle.std.proofs.Common.{ap, subst, ◌∙◌, arith}
use Rattle.std.specs.Prelude.{slice_index_or}
use Rattle.std.specs.Str.{chars}
use Rattle.std.proofs.Math.Seq.{drop-cons, take-append_seam}
use Rattle.std.proofs.lemmas.List.{length-map, map-append, map_more, take-map, append_assoc}
use Rattle.std.proofs.lemmas.List.Elements.{All-nil, All-push}
use Rattle.elasticlunr_error.specs.Text.{Text, Bytes}
use Rattle.elasticlunr_trie_nodes.specs.Table.{Table, Change, add, IsChanged, AreChanged, additions, told_tokens}
use Rattle.elasticlunr_trie_nodes.specs.Trie.{Step}
use Rattle.elasticlunr_trie_nodes.specs.Starts.{IsStart, KeepsPaths, told}
use Rattle.elasticlunr_trie_nodes.specs.declared.start.WalkedToken.{WalkedToken}
use Rattle.elasticlunr_trie.specs.Begun.{AreBegun}

-- where paths stay, so do starts
pub start_kept : (old new : Step) → KeepsPaths old new → (s : WalkedToken) → IsStart old s → IsStart new s
start_kept old new keeps s is = record {
  known = is.known;
  split = is.split;
  leads = keeps is.known s.place is.leads;
  token = is.token;
  rest = is.rest;
}

-- one change more
changed_more : (changes : List Change) (change : Change) (T U V : Table) → AreChanged changes T U → IsChanged change U V
    → AreChanged (changes ++ change ∷ []) T V
changed_more [] change T U V same last = (V, subst (λ W. IsChanged change W V) same last, refl)
changed_more (c ∷ changes) change T U V are last = (are.0, are.1, changed_more changes change are.0 U V are.2 last)

-- one start is added after those before it
pub changed_on : (r : Bytes) (starts : List WalkedToken) (i : ℕ) (d : WalkedToken) (T U V : Table) → i < length starts
    → AreChanged (additions r (map told (take i starts))) T U
    → IsChanged (add (chars (slice_index_or starts i d).token.now) r (slice_index_or starts i d).frequency) U V
    → AreChanged (additions r (map told (take (i + 1) starts))) T V
changed_on r starts i d T U V lt are last =
    let one_more : additions r (map told (take (i + 1) starts))
    ≡ additions r (map told (take i starts)) ++ add (chars (slice_index_or starts i d).token.now) r
    (slice_index_or starts i d).frequency ∷ [] =
    ap (additions r) (map_more told starts i d lt) ∙ map-append _ (map told (take i starts)) _ in
    subst (λ cs. AreChanged cs T V) (sym one_more) (changed_more _ _ T U V are last)

-- the starts before one are the first of them all
pub begun : (r : Bytes) (starts : List WalkedToken) (i : ℕ) (T U : Table)
    → AreChanged (additions r (map told (take i starts))) T U → AreBegun (additions r (map told starts)) T U
begun r starts i T U are = (
  i,
  subst (λ cs. AreChanged cs T U) (sym (take-map _ i (map told starts)
      ∙ ap (additions r) (take-map told i starts))) are,
)

-- starts that were walked on where they stand in a vector of n, which tells what it told
pub walked_on : (step : Step) (n : ℕ) (old new rest : List WalkedToken) (tokens : List (Text × ℕ)) → length old ≡ n
    → map told new ≡ map told old → All (IsStart step) new → map told old ≡ tokens
    → All (IsStart step) (take n (new ++ rest)) × (map told (take n (new ++ rest)) ≡ tokens)
walked_on step n old new rest tokens count same are tell =
    let all = ap (λ m. take m (new ++ rest)) (sym count ∙ sym (length-map old told) ∙ ap length (sym same)
    ∙ length-map new told) ∙ take-append_seam new rest in
    (subst (All (IsStart step)) (sym all) are, ap (map told) all ∙ same ∙ tell)

-- a start that tells a token comes after those of the tokens before
pub pushed : (step : Step) (old new : List WalkedToken) (s : WalkedToken) (tokens : List (Bor Bytes × ℕ)) (i : ℕ)
    (d : Bor Bytes × ℕ) → i < length tokens → new ≡ old ++ s ∷ [] → IsStart step s
    → told s ≡ (chars (slice_index_or tokens i d).0.now, (slice_index_or tokens i d).1)
    → All (IsStart step) old × (map told old ++ told_tokens (drop i tokens) ≡ told_tokens tokens)
    → All (IsStart step) new × (map told new ++ told_tokens (drop (i + 1) tokens) ≡ told_tokens tokens)
pushed step old new s tokens i d lt items is tell before =
    let next : suc i ≡ i + 1 = omega arith in
    let rest = ap told_tokens (drop-cons tokens i d lt ∙ ap (λ n. slice_index_or tokens i d ∷ drop n tokens) next) in
    let seam = ap (λ ss. map told ss ++ told_tokens (drop (i + 1) tokens)) items
    ∙ ap (λ ts. ts ++ told_tokens (drop (i + 1) tokens)) (map-append told old (s ∷ []))
    ∙ append_assoc (map told old) (told s ∷ []) (told_tokens (drop (i + 1) tokens)) in (
      subst (All (IsStart step)) (sym items) (All-push (IsStart step) old s before.0 is),
      seam ∙ ap (λ t. map told old ++ t ∷ told_tokens (drop (i + 1) tokens)) tell
          ∙ sym (ap (λ ts. map told old ++ ts) rest) ∙ before.1,
    )

-- before the first token there is no start
pub none_yet : (step : Step) (starts : List WalkedToken) (tokens : List (Bor Bytes × ℕ)) → starts ≡ []
    → All (IsStart step) starts × (map told starts ++ told_tokens tokens ≡ told_tokens tokens)
none_yet step starts tokens none = (
  subst (All (IsStart step)) (sym none) (All-nil (IsStart step)),
  ap (λ ss. map told ss ++ told_tokens tokens) none,
)
