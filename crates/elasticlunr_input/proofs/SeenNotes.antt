-- On the documents that the notes see on lines.
use Rattle.std.proofs.Common.{List, [], ◌∷◌, refl}
use Rattle.serde_json.specs.Data.{Data}
use Rattle.elasticlunr_documents.specs.Seen.{SawAll}
use Rattle.elasticlunr_job_format.specs.Job.{Document}
use Rattle.elasticlunr_job_format.specs.Objects.{AreDocumentsOf, Options}
use Rattle.elasticlunr_input.specs.Noted.{texts_keys}
use Rattle.elasticlunr_input.specs.NotedAll.{AreNoted, AreToldOf, Notices, Told}
use Rattle.elasticlunr_input.specs.declared.notes.Notes.{Notes}

-- the notes after the documents that they saw
pub saw_noted : (options : Options) (old new : Notes) (items : List Data) (docs : List Document)
    → SawAll Notices old new items docs → AreDocumentsOf options items docs
    → (told : List Told) × AreToldOf options items told × AreNoted old new told
saw_noted options old new [] [] is are = ([], tt, is)
saw_noted options old new [] (doc ∷ docs) saw are = absurd saw
saw_noted options old new (d ∷ items) [] saw are = absurd saw
saw_noted options old new (d ∷ items) (doc ∷ docs) (next, its, others) are =
    let rest = saw_noted options next new items docs others are.1 in
    ((doc, texts_keys d) ∷ rest.0, ((are.0, refl), rest.1), (next, its, rest.2))
