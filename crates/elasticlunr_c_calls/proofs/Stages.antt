-- Stages that leave each token as it is.
use Rattle.std.proofs.Common.{◌≡◌, ◌↔◌, List, [], ◌∷◌, ◌++◌, Option, Some, None, MatchOption, refl, subst}
use Rattle.std.specs.List.{AllByRecursion}
use Rattle.std.specs.Prelude.{⊤}
use Rattle.std.specs.declared.alloc.Global.{Global}
use Rattle.std.specs.declared.dyn_box.DynBox.{DynBox}
use Rattle.elasticlunr_text.specs.Text.{Text}
use Rattle.elasticlunr_text.specs.Stages.{IsKnown, MayLeaveAll}
use Rattle.elasticlunr_text.specs.declared.pipeline.stage.Stage.{Stage}
use Rattle.elasticlunr_text.specs.declared.pipeline.stage.Stage.TheVariants.{EnglishTrimmer, StopWords, Class}
use Rattle.elasticlunr_text.specs.declared.pipeline.stage.Stage.TheVariants.{EnglishStemmer, ArabicStemmer, Keep}
use Rattle.elasticlunr_text.specs.declared.pipeline.stage.Stage.TheVariants.{Function, Own, TableStemmer}

-- the stage leaves each token as it is
abbrev pub IsKeep : {f x p calls : _} → Stage f x p calls → Type 0
IsKeep EnglishTrimmer = ⊥
IsKeep (StopWords filter) = ⊥
IsKeep (Class trimmer) = ⊥
IsKeep EnglishStemmer = ⊥
IsKeep ArabicStemmer = ⊥
IsKeep (TableStemmer stemmer) = ⊥
IsKeep (Keep name) = ⊤
IsKeep (Function wrapper) = ⊥
IsKeep (Own step) = ⊥

-- what holds of each and of one more
pub all_push : {A : Type 0} (P : A → Type 0) (xs : List A) (x : A) → AllByRecursion P xs → P x
    → AllByRecursion P (xs ++ x ∷ [])
all_push P [] x all p = (p, tt)
all_push P (y ∷ ys) x all p = (all.0, all_push P ys x all.1 p)

module _ {f x p calls : _} (leaves : DynBox x Global p → Text → Option Text) where
  there : (stages : List (Stage f x p calls)) → AllByRecursion IsKeep stages → (token : Text) (left : Option Text)
      → MayLeaveAll leaves stages token left → left ≡ Some token
  there [] all token left is = is
  there (EnglishTrimmer ∷ stages) all token left is = absurd all.0
  there (StopWords filter ∷ stages) all token left is = absurd all.0
  there (Class trimmer ∷ stages) all token left is = absurd all.0
  there (EnglishStemmer ∷ stages) all token left is = absurd all.0
  there (ArabicStemmer ∷ stages) all token left is = absurd all.0
  there (TableStemmer stemmer ∷ stages) all token left is = absurd all.0
  there (Keep name ∷ stages) all token left (first, is, rest) = there stages all.1 token left
      (subst (λ o. MatchOption o (left ≡ None) (λ t. MayLeaveAll leaves stages t left)) is rest)
  there (Function wrapper ∷ stages) all token left is = absurd all.0
  there (Own step ∷ stages) all token left is = absurd all.0

  back : (stages : List (Stage f x p calls)) → AllByRecursion IsKeep stages → (token : Text) (left : Option Text)
      → left ≡ Some token → MayLeaveAll leaves stages token left
  back [] all token left is = is
  back (EnglishTrimmer ∷ stages) all token left is = absurd all.0
  back (StopWords filter ∷ stages) all token left is = absurd all.0
  back (Class trimmer ∷ stages) all token left is = absurd all.0
  back (EnglishStemmer ∷ stages) all token left is = absurd all.0
  back (ArabicStemmer ∷ stages) all token left is = absurd all.0
  back (TableStemmer stemmer ∷ stages) all token left is = absurd all.0
  back (Keep name ∷ stages) all token left is = (Some token, refl, back stages all.1 token left is)
  back (Function wrapper ∷ stages) all token left is = absurd all.0
  back (Own step ∷ stages) all token left is = absurd all.0

  -- they leave the token as it is
  pub leave_as_is : (stages : List (Stage f x p calls)) → AllByRecursion IsKeep stages → (token : Text)
      (left : Option Text) → MayLeaveAll leaves stages token left ↔ (left ≡ Some token)
  leave_as_is stages all token left = (there stages all token left, back stages all token left)

-- they are known
pub keeps_are_known : {f x p calls : _} (stages : List (Stage f x p calls)) → AllByRecursion IsKeep stages
    → AllByRecursion IsKnown stages
keeps_are_known [] all = tt
keeps_are_known (EnglishTrimmer ∷ stages) all = absurd all.0
keeps_are_known (StopWords filter ∷ stages) all = absurd all.0
keeps_are_known (Class trimmer ∷ stages) all = absurd all.0
keeps_are_known (EnglishStemmer ∷ stages) all = absurd all.0
keeps_are_known (ArabicStemmer ∷ stages) all = absurd all.0
keeps_are_known (TableStemmer stemmer ∷ stages) all = absurd all.0
keeps_are_known (Keep name ∷ stages) all = (tt, keeps_are_known stages all.1)
keeps_are_known (Function wrapper ∷ stages) all = absurd all.0
keeps_are_known (Own step ∷ stages) all = absurd all.0
