-- On what a pipeline leaves of tokens.
use Rattle.std.proofs.Common.{◌≡◌, ℕ, ◌+◌, ◌<◌, List, [], ◌∷◌, ◌++◌, length, get_or, drop, Option, Some, None, Result}
use Rattle.std.proofs.Common.{Ok, Err, String, option_map, option_to_list, IfOk, IsSomeAnd, filter_map, refl, sym, ◌∙◌}
use Rattle.std.proofs.Common.{ap, subst}
use Rattle.std.specs.List.{AllZip}
use Rattle.std.specs.declared.alloc.Global.{Global}
use Rattle.std.specs.declared.alloc.AllocError.{AllocError}
use Rattle.std.specs.declared.dyn_box.DynBox.{DynBox}
use Rattle.std.proofs.lemmas.List.{drop_more, map-append, append-nil}
use Rattle.std.proofs.lemmas.List.Elements.{filter_map-append}
use Rattle.elasticlunr_text.specs.Text.{text_of, texts_of}
use Rattle.std.proofs.lemmas.Option.{none-some}
use Rattle.elasticlunr_text.specs.Stems.{Stem}
use Rattle.elasticlunr_text.proofs.OneStem.{one-Stem}
use Rattle.elasticlunr_text.specs.declared.pipeline.stage.Stage.TheVariants.{EnglishTrimmer, StopWords, Class}
use Rattle.elasticlunr_text.specs.declared.pipeline.stage.Stage.TheVariants.{EnglishStemmer, ArabicStemmer, Keep}
use Rattle.elasticlunr_text.specs.declared.pipeline.stage.Stage.TheVariants.{Function, Own, TableStemmer}
use Rattle.elasticlunr_text.specs.Answers.{MayAnswer}
use Rattle.elasticlunr_text.specs.Stages.{MayLeave, MayLeaveAll, MayRun}
use Rattle.elasticlunr_text.specs.declared.pipeline.function.FnWrapper.{FnWrapper}
use Rattle.elasticlunr_text.specs.declared.pipeline.stage.Stage.{Stage}

-- what a call of a wrapper's function gave is what it may answer
pub MayAnswer-call : {f calls : _} (w : FnWrapper f calls) (alloc : Global) (s : String Global)
    (r : Result (Option (String Global)) AllocError) → calls.post w.function (alloc, (s, tt)) r
    → IfOk r (λ left. MayAnswer w (text_of s) (option_map text_of left))
MayAnswer-call w alloc s (Ok answer) met = (alloc, s, answer, refl, refl, met)
MayAnswer-call w alloc s (Err e) met = tt

-- the last pair of two lists that go together
pub AllZip-snoc : {A B : Type 0} (R : A → B → Type 0) (xs : List A) (ys : List B) (x : A) (y : B) → AllZip R xs ys
    → R x y → AllZip R (xs ++ x ∷ []) (ys ++ y ∷ [])
AllZip-snoc R [] [] x y all one = (one, tt)
AllZip-snoc R [] (b ∷ ys) x y all one = absurd all
AllZip-snoc R (a ∷ xs) [] x y all one = absurd all
AllZip-snoc R (a ∷ xs) (b ∷ ys) x y all one = (all.0, AllZip-snoc R xs ys x y all.1 one)

-- lists that go together, in two parts
AllZip-split : {A B : Type 0} (R : A → B → Type 0) (xs ys : List A) (zs : List B) → AllZip R (xs ++ ys) zs
    → (ps : List B) × (qs : List B) × (zs ≡ ps ++ qs) × AllZip R xs ps × AllZip R ys qs
AllZip-split R [] ys zs all = ([], zs, refl, tt, all)
AllZip-split R (x ∷ xs) ys [] all = absurd all
AllZip-split R (x ∷ xs) ys (z ∷ zs) all =
    let rest = AllZip-split R xs ys zs all.1 in
    (z ∷ rest.0, rest.1, ap (λ l. z ∷ l) rest.2, (all.0, rest.3), rest.4)

AllZip-both : {A B : Type 0} (R : A → B → Type 0) (xs ys : List A) (ps qs : List B) → AllZip R xs ps → AllZip R ys qs
    → AllZip R (xs ++ ys) (ps ++ qs)
AllZip-both R [] ys [] qs one other = other
AllZip-both R [] ys (a ∷ ps) qs one other = absurd one
AllZip-both R (x ∷ xs) ys [] qs one other = absurd one
AllZip-both R (x ∷ xs) ys (a ∷ ps) qs one other = (one.0, AllZip-both R xs ys ps qs one.1 other)

module _ {f x p calls : _} (leaves : DynBox x Global p → List ℕ → Option (List ℕ)) where
  -- the stage at i of the listed ones, which leaves the text u, and then those after it
  pub MayLeaveAll-step : (listed stages : List (Stage f x p calls)) (i : ℕ) (stage : Stage f x p calls) (t u : List ℕ)
      (left : Option (List ℕ)) → listed ≡ stages → i < length listed → stage ≡ get_or listed i stage
      → MayLeave leaves stage t (Some u) → MayLeaveAll leaves (drop (i + 1) stages) u left
      → MayLeaveAll leaves (drop i stages) t left
  MayLeaveAll-step listed stages i stage t u left e within same one others =
      rw (drop_more stages i stage (rw e at within)) (rw (← (rw e at same)) (Some u, one, others))

  -- the same where the stage drops the token
  pub MayLeaveAll-drop : (listed stages : List (Stage f x p calls)) (i : ℕ) (stage : Stage f x p calls) (t : List ℕ)
      → listed ≡ stages → i < length listed → stage ≡ get_or listed i stage → MayLeave leaves stage t None
      → MayLeaveAll leaves (drop i stages) t None
  MayLeaveAll-drop listed stages i stage t e within same one =
      rw (drop_more stages i stage (rw e at within)) (rw (← (rw e at same)) (None, one, refl))

  -- one token more
  pub MayRun-snoc : (stages : List (Stage f x p calls)) (tokens texts : List (List ℕ)) (t : List ℕ)
      (left : Option (List ℕ)) → MayRun leaves stages tokens texts → MayLeaveAll leaves stages t left
      → MayRun leaves stages (tokens ++ t ∷ []) (texts ++ option_to_list left)
  MayRun-snoc stages tokens texts t left (lefts, all, same) one = (
    lefts ++ left ∷ [],
    AllZip-snoc _ tokens lefts t left all one,
    rw (filter_map-append (λ l. l) lefts (left ∷ []))
        (rw same (last left)),
  )
    where
      last : (left : Option (List ℕ)) → filter_map (λ l. l) lefts ++ option_to_list left
          ≡ filter_map (λ l. l) lefts ++ filter_map (λ l. l) (left ∷ [])
      last None = refl
      last (Some u) = refl

  -- one token more, of which a text is left
  MayRun-kept : (stages : List (Stage f x p calls)) (tokens : List (List ℕ)) (kept more : List (String Global))
      (t : List ℕ) (u : String Global) → MayRun leaves stages tokens (texts_of kept)
      → MayLeaveAll leaves stages t (Some (text_of u)) → more ≡ kept ++ u ∷ []
      → MayRun leaves stages (tokens ++ t ∷ []) (texts_of more)
  MayRun-kept stages tokens kept more t u all one e =
      rw (e, map-append text_of kept (u ∷ [])) (MayRun-snoc stages tokens (texts_of kept) t (Some (text_of u)) all one)

  -- one token more, which is dropped
  MayRun-dropped : (stages : List (Stage f x p calls)) (tokens : List (List ℕ)) (kept : List (String Global))
      (t : List ℕ) → MayRun leaves stages tokens (texts_of kept) → MayLeaveAll leaves stages t None
      → MayRun leaves stages (tokens ++ t ∷ []) (texts_of kept)
  MayRun-dropped stages tokens kept t all one =
      rw (← (append-nil (texts_of kept))) (MayRun-snoc stages tokens (texts_of kept) t None all one)

  -- one token more, of which this is kept
  pub MayRun-on : (stages : List (Stage f x p calls)) (tokens : List (List ℕ)) (kept more : List (String Global))
      (t : List ℕ) (left : Option (String Global)) → MayRun leaves stages tokens (texts_of kept)
      → MayLeaveAll leaves stages t (option_map text_of left) → more ≡ kept ++ option_to_list left
      → MayRun leaves stages (tokens ++ t ∷ []) (texts_of more)
  MayRun-on stages tokens kept more t (Some u) all one e = MayRun-kept stages tokens kept more t u all one e
  MayRun-on stages tokens kept more t None all one e = rw (e, append-nil kept)
      (MayRun-dropped stages tokens kept t all one)

  -- the texts of one string more
  pub MayRun-strings : (stages : List (Stage f x p calls)) (tokens : List (String Global)) (t : String Global)
      (texts : List (List ℕ)) → MayRun leaves stages (texts_of tokens ++ text_of t ∷ []) texts
      → MayRun leaves stages (texts_of (tokens ++ t ∷ [])) texts
  MayRun-strings stages tokens t texts ran = rw (map-append text_of tokens (t ∷ [])) ran

  -- a run of two lists of tokens is a run of each
  pub MayRun-parts : (stages : List (Stage f x p calls)) (tokens more texts : List (List ℕ))
      → MayRun leaves stages (tokens ++ more) texts → (one : List (List ℕ)) × (other : List (List ℕ))
      × (texts ≡ one ++ other) × MayRun leaves stages tokens one × MayRun leaves stages more other
  MayRun-parts stages tokens more texts (lefts, all, same) =
      let parts = AllZip-split (MayLeaveAll leaves stages) tokens more lefts all in (
        filter_map (λ l. l) parts.0,
        filter_map (λ l. l) parts.1,
        same ∙ ap (filter_map (λ l. l)) parts.2 ∙ filter_map-append (λ l. l) parts.0 parts.1,
        (parts.0, parts.3, refl),
        (parts.1, parts.4, refl),
      )

  pub MayRun-both : (stages : List (Stage f x p calls)) (tokens more one other : List (List ℕ))
      → MayRun leaves stages tokens one → MayRun leaves stages more other
      → MayRun leaves stages (tokens ++ more) (one ++ other)
  MayRun-both stages tokens more one other (lefts, all, same) (rests, rest_all, rest_same) = (
    lefts ++ rests,
    AllZip-both (MayLeaveAll leaves stages) tokens more lefts rests all rest_all,
    rw (same, rest_same) (sym (filter_map-append (λ l. l) lefts rests)),
  )

-- what a wrapper's function may answer, it has one answer by the wrapper's own invariant
one-MayAnswer : {f calls : _} (w : FnWrapper f calls) (t : List ℕ) (a b : Option (List ℕ)) → MayAnswer w t a
    → MayAnswer w t b → a ≡ b
one-MayAnswer w t a b (g, s, p, es, ep, m) (h, r, q, er, eq, n) = sym ep ∙ w.one_answer g h s r p q (es ∙ sym er) m n
    ∙ eq

-- a word has one stem at most
one-stem-left : (t : List ℕ) (a b : Option (List ℕ)) → IsSomeAnd a (Stem t) → IsSomeAnd b (Stem t) → a ≡ b
one-stem-left t None b one other = absurd one
one-stem-left t (Some u) None one other = absurd other
one-stem-left t (Some u) (Some v) one other = ap (λ x. Some x) (one-Stem t u v one other)

module _ {f x p calls : _} (leaves : DynBox x Global p → List ℕ → Option (List ℕ)) where
  -- a stage leaves one thing of a token
  one-MayLeave : (stage : Stage f x p calls) (t : List ℕ) (a b : Option (List ℕ)) → MayLeave leaves stage t a
      → MayLeave leaves stage t b → a ≡ b
  one-MayLeave EnglishTrimmer t a b one other = one ∙ sym other
  one-MayLeave (StopWords filter) t a b one other = one ∙ sym other
  one-MayLeave (Class trimmer) t a b one other = one ∙ sym other
  one-MayLeave EnglishStemmer t a b one other = one-stem-left t a b one other
  one-MayLeave ArabicStemmer t a b one other = one ∙ sym other
  one-MayLeave (TableStemmer stemmer) t a b one other = one ∙ sym other
  one-MayLeave (Keep name) t a b one other = one ∙ sym other
  one-MayLeave (Function w) t a b one other = one-MayAnswer w t a b one other
  one-MayLeave (Own step) t a b one other = one ∙ sym other

  -- so do stages, one after the other
  pub one-MayLeaveAll : (stages : List (Stage f x p calls)) (t : List ℕ) (a b : Option (List ℕ))
      → MayLeaveAll leaves stages t a → MayLeaveAll leaves stages t b → a ≡ b
  one-MayLeaveAll [] t a b one other = one ∙ sym other
  one-MayLeaveAll (stage ∷ stages) t a b (None, m, e) (None, n, k) = e ∙ sym k
  one-MayLeaveAll (stage ∷ stages) t a b (None, m, e) (Some v, n, k) =
      absurd (none-some v (one-MayLeave stage t None (Some v) m n))
  one-MayLeaveAll (stage ∷ stages) t a b (Some u, m, e) (None, n, k) =
      absurd (none-some u (sym (one-MayLeave stage t (Some u) None m n)))
  one-MayLeaveAll (stage ∷ stages) t a b (Some u, m, e) (Some v, n, k) =
      let same = one-MayLeave stage t (Some u) (Some v) m n in
      let at : v ≡ u = cc in
      one-MayLeaveAll stages u a b e (subst (λ (z : List ℕ). MayLeaveAll leaves stages z b) at k)

  -- and of each token of a list
  one-AllZip : (stages : List (Stage f x p calls)) (ts : List (List ℕ)) (ms ns : List (Option (List ℕ)))
      → AllZip (MayLeaveAll leaves stages) ts ms → AllZip (MayLeaveAll leaves stages) ts ns → ms ≡ ns
  one-AllZip stages [] [] [] one other = refl
  one-AllZip stages [] (a ∷ ms) ns one other = absurd one
  one-AllZip stages [] [] (b ∷ ns) one other = absurd other
  one-AllZip stages (t ∷ ts) [] ns one other = absurd one
  one-AllZip stages (t ∷ ts) (a ∷ ms) [] one other = absurd other
  one-AllZip stages (t ∷ ts) (a ∷ ms) (b ∷ ns) one other =
      let head = one-MayLeaveAll stages t a b one.0 other.0 in
      let tail = one-AllZip stages ts ms ns one.1 other.1 in
      cc

  -- so a run has one answer
  pub one-MayRun : (stages : List (Stage f x p calls)) (ts us vs : List (List ℕ)) → MayRun leaves stages ts us
      → MayRun leaves stages ts vs → us ≡ vs
  one-MayRun stages ts us vs (ms, all, same) (ns, every, sames) =
      same ∙ ap (filter_map (λ l. l)) (one-AllZip stages ts ms ns all every) ∙ sym sames
