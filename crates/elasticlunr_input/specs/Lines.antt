-- The index of the objects in lines.
use Rattle.std.specs.Prelude.{List}
use Rattle.serde_json.specs.Data.{Data}
use Rattle.elasticlunr_text.specs.Text.{Bytes}
use Rattle.elasticlunr_job.specs.Answer.{OfIndex}
use Rattle.elasticlunr_job_format.specs.Lines.{AreLineValues}
use Rattle.elasticlunr_input.specs.Asked.{AreMadeWith}
use Rattle.elasticlunr_input.specs.Settled.{Settings}

-- this holds of it
abbrev pub IsLinesMadeWith : Settings → Bytes → OfIndex → Type 0
IsLinesMadeWith settings input Is = (items : List Data) × AreLineValues input items
    × AreMadeWith settings items Is
