use Rattle.std.proofs.Common.{map, take, ◌++◌}
use Rattle.std.specs.List.{filter}
use Rattle.elasticlunr.specs.AnyLanguage.TheVariants.{German as german}
use Rattle.elasticlunr.specs.After.{IsKeptAfter}
use Rattle.elasticlunr.specs.Calls.{removing}
use Rattle.elasticlunr_site.specs.Site.{adding_page, fields, fits}
use Rattle.elasticlunr_site.proofs.filled.Given as goal

-- the pages so far that fit are added
abbrev pub invariant-loop-page : goal.invariant-loop-page
invariant-loop-page g l = IsKeptAfter (λ z. (goal.PipelineFn-dyn g z).name_text z.1) (λ z. (goal.PipelineFn-dyn g z).leaves z.1)
    german _ fields (map adding_page (filter fits (take l.page-index l.pages))) l.index

-- and the drafts so far are removed
abbrev pub invariant-loop-draft : goal.invariant-loop-draft
invariant-loop-draft g l = IsKeptAfter (λ z. (goal.PipelineFn-dyn g z).name_text z.1) (λ z. (goal.PipelineFn-dyn g z).leaves z.1)
    german _ fields (map adding_page (filter fits l.pages)
    ++ map (λ draft. removing draft.now) (take l.draft-index l.drafts)) l.index
