-- Pages of a site, and the text of their index.
use Rattle.std.specs.Prelude.{ℕ, List, [], ◌∷◌, codes}
use Rattle.elasticlunr.specs.Text.{Bytes}
use Rattle.elasticlunr.specs.AnyLanguage.TheVariants.{English as english}
use Rattle.elasticlunr.specs.Calls.{Call, adding, removing}
use Rattle.elasticlunr.specs.Choices.{fields_plan}
use Rattle.elasticlunr.specs.Kept.{IsTextOfCalls}
use Rattle.elasticlunr.specs.Known.{language_name, language_stages}
use Rattle.elasticlunr.specs.Standing.{Plan}
use Rattle.elasticlunr_uses.specs.declared.page.Page.{Page}

-- the page is added with this text
abbrev pub adding_text : Page → Bytes → Call
adding_text page text = adding page.reference.now (text ∷ [])

-- it is added with its own
abbrev pub adding_page : Page → Call
adding_page page = adding_text page page.text.now

-- it is removed
abbrev pub removing_page : Page → Call
removing_page page = removing page.reference.now

-- how an English index of the field `body` is built
abbrev pub body_plan : Plan
body_plan = fields_plan (language_name english) (language_stages english) (codes "body" ∷ [])

-- the text is what an English index of the field `body` prints after these calls
abbrev pub IsTextOf : List Call → (text : List ℕ) → Type 0
IsTextOf calls text = IsTextOfCalls english (codes "body" ∷ []) calls text
