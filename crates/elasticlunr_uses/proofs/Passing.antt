-- Errors that `?` passes on.
use Rattle.std.proofs.Common.{◌≡◌, List, [], ◌∷◌, Result, Ok, Err, IfErr, ◌⊎◌, inl, inr, true≢false, refl, sym, subst, ◌∙◌}
use Rattle.std.specs.Prelude.{IsErrAnd}
use Rattle.elasticlunr.specs.AnyLanguage.{AnyLanguage}
use Rattle.elasticlunr.specs.Calls.{Call}
use Rattle.elasticlunr.specs.Standing.{Plan}
use Rattle.elasticlunr.specs.Text.{Bytes}
use Rattle.elasticlunr_laws.proofs.OneField.{has_only}
use Rattle.elasticlunr_search.specs.declared.error.SearchError.{SearchError}
use Rattle.elasticlunr_uses.specs.Stops.{LacksOneOf, ReadsNoText, SearchFails}
use Rattle.elasticlunr_uses.specs.declared.error.UseError.TheVariants.{Search}

-- what is so of the error that was made of another one
pub passed : {T E F : Type 0} (r : Result T F) (into : E → F) (e : E) (P : F → Type 0) → IsErrAnd r (λ x. x ≡ into e)
    → P (into e) → IfErr r P
passed (Ok x) into e P is so = tt
passed (Err x) into e P is so = subst P (sym is) so

-- a search of the one field fails only where the text is not read
pub reads_nothing : (language : AnyLanguage) (plan : Plan) (calls : List Call) (field : Bytes) (e : SearchError)
    → ReadsNoText language plan calls e ⊎ LacksOneOf (field ∷ []) (field ∷ []) e
    → SearchFails (ReadsNoText language plan calls) (Search e)
reads_nothing language plan calls field e (inl unread) = (e, refl, unread)
reads_nothing language plan calls field e (inr lacks) =
    absurd (true≢false (sym (has_only field lacks.1.0 lacks.1.1) ∙ lacks.1.2))
