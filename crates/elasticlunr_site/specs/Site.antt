-- A site, and the text of its index.
use Rattle.std.specs.Prelude.{ℕ, List, [], ◌∷◌, ◌++◌, Bool, Option, nat_le, codes, filter, length}
use Rattle.std.specs.Prelude.{map}
use Rattle.std.specs.Borrow.{Bor}
use Rattle.elasticlunr.specs.AnyLanguage.TheVariants.{German}
use Rattle.elasticlunr.specs.After.{IsKeptAfter}
use Rattle.elasticlunr.specs.Calls.{Call, adding, removing, compacting}
use Rattle.elasticlunr.specs.declared.index.Index.{Index}
use Rattle.elasticlunr.specs.Kept.{IsTextOfCalls}
use Rattle.elasticlunr.specs.Text.{Text, Bytes}
use Rattle.elasticlunr.specs.Fields.{borrowed}
use Rattle.elasticlunr_site.specs.declared.Page.{Page}

-- a title and a body
abbrev pub fields : List Bytes
fields = codes "title" ∷ codes "body" ∷ []

-- the page has no more texts than there are fields
abbrev pub fits : Page → Bool
fits page = nat_le (length page.texts.now) (length fields)

-- the page is added with its texts
abbrev pub adding_page : Page → Call
adding_page page = adding page.address.now (borrowed page.texts.now)

-- the pages that fit are added, the drafts removed, and the index is compacted
abbrev pub calls_of : (pages : List Page) (drafts : List (Bor Bytes)) → List Call
calls_of pages drafts = map adding_page (filter fits pages)
    ++ map (λ draft. removing draft.now) drafts ++ compacting ∷ []

-- the text is what a German index prints after these calls
abbrev pub IsTextOf : (pages : List Page) (drafts : List (Bor Bytes)) → (text : List ℕ) → Type 0
IsTextOf pages drafts text = IsTextOfCalls German fields (calls_of pages drafts) text

-- the index is a German one, new, of these fields; `name_text` is the name of a boxed stage and
-- `leaves` its output for a token
abbrev pub IsNew : {L P X Y : Type 0} {O : X → Type 0} {F : Y → Type 0} {p : _} {g : _}
    (name_text : (v : X) × O v → Bytes) (leaves : (v : X) × O v → Text → Option Text)
    → Index L P X Y O F p g → Type 0
IsNew {L} name_text leaves index = (language : L)
    → IsKeptAfter name_text leaves German language fields [] index
