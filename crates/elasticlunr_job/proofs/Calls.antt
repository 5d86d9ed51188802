-- The commands of a job are those of its calls.
use Rattle.std.proofs.Common.{List, [], ◌∷◌, ◌++◌, map, cond, Bool, true, false, refl}
use Rattle.std.specs.List.{AllZip}
use Rattle.elasticlunr_text.specs.Text.{Bytes}
use Rattle.elasticlunr_lang.specs.declared.any.AnyLanguage.{AnyLanguage}
use Rattle.elasticlunr.specs.Calls as calls
use Rattle.elasticlunr.specs.Calls.{Call, adding, removing, compacting, IsCommandOf}
use Rattle.elasticlunr.specs.History.{Document, Command, add, remove, Commands}
use Rattle.elasticlunr.specs.Kept.{IsKeptDocument}
use Rattle.elasticlunr_job.specs.Calls.{job_calls}
use Rattle.elasticlunr_job.specs.Commands.{AreCommandsOf, compacted, in_order, IsAdded}
use Rattle.elasticlunr_job_format.specs.Job as asked
use Rattle.elasticlunr_job_format.specs.Job.{Job}

joined : {A B : Type 0} (R : A → B → Type 0) (xs more : List A) (ys also : List B) → AllZip R xs ys → AllZip R more also
    → AllZip R (xs ++ more) (ys ++ also)
joined R [] more [] also each rest = rest
joined R [] more (y ∷ ys) also each rest = absurd each
joined R (x ∷ xs) more [] also each rest = absurd each
joined R (x ∷ xs) more (y ∷ ys) also each rest = (each.0, joined R xs more ys also each.1 rest)

module _ (job : Job) (language : AnyLanguage) where
  -- the call was this command
  abbrev Was : Call → Command → Type 0
  Was = IsCommandOf (IsKeptDocument language job.fields job.reference_field)

  added : (docs : List asked.Document) (documents : List Document) → AllZip (IsAdded job language) docs documents
      → AllZip Was (map (λ doc. adding doc.reference doc.values) docs) (map add documents)
  added [] [] each = tt
  added [] (d ∷ documents) each = absurd each
  added (doc ∷ docs) [] each = absurd each
  added (doc ∷ docs) (d ∷ documents) each = (each.0, added docs documents each.1)

  removed : (references : List Bytes) → AllZip Was (map removing references) (map remove references)
  removed [] = tt
  removed (r ∷ references) = (refl, removed references)

  compacts : (wanted : Bool) → AllZip Was (cond wanted (compacting ∷ []) []) (compacted wanted)
  compacts true = (tt, tt)
  compacts false = tt

  pub commands_of_calls : (commands : Commands) → AreCommandsOf job language commands
      → calls.AreCommandsOf (IsKeptDocument language job.fields job.reference_field) (job_calls job) commands
  commands_of_calls commands are = record {
    list = in_order job are.documents;
    each = joined Was _ _ _ _ (joined Was _ _ _ _ (added job.docs are.documents are.each) (removed job.remove))
        (compacts job.compact);
    whole = are.whole;
  }
