-- What a watch sees of documents.
use Rattle.std.specs.Prelude.{◌≡◌, List, [], ◌∷◌}
use Rattle.serde_json.specs.Data.{Data}
use Rattle.elasticlunr_text.specs.Text.{Bytes}
use Rattle.elasticlunr_job_format.specs.Job.{Document}
use Rattle.elasticlunr_job_format.specs.Lines.{AreLineValues}
use Rattle.elasticlunr_job_format.specs.Objects.{Options, AreDocumentsOf}

-- what a watch sees of a document: the watch before and after it, the value, and the document that
-- the value is
abbrev pub Sees : Type 0 → Type 1
Sees W = W → W → Data → Document → Type 0

-- a watch saw these values and the documents that they are, in order, each once
abbrev pub SawAll : {W : Type 0} → Sees W → (old new : W) → List Data → List Document → Type 0
SawAll sees old new [] [] = new ≡ old
SawAll sees old new [] (doc ∷ docs) = ⊥
SawAll sees old new (d ∷ items) [] = ⊥
SawAll {W = W} sees old new (d ∷ items) (doc ∷ docs) = (next : W) × sees old next d doc
    × SawAll sees next new items docs

-- it saw the documents that the lines of a text are
abbrev pub SawLines : {W : Type 0} → Sees W → Options → Bytes → (old new : W) → Type 0
SawLines sees options text old new = (items : List Data) × (docs : List Document)
    × AreLineValues text items × AreDocumentsOf options items docs × SawAll sees old new items docs
