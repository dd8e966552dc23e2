use Rattle.btree_search.proofs.Walks.{only_then}
use Rattle.btree_search.proofs.Searches.{root_misshown, found_in_tree, cause_in_tree, load_cause}
use Rattle.btree_search.proofs.Ways.{finds_in_tree}
use Rattle.btree_search.proofs.search.search.Goals as goal

pub returns-in-Err-clause-fault : goal.returns-in-Err-clause-fault
returns-in-Err-clause-fault g c = load_cause (g.G.Pages.state c.args.pages.now) (g.G.Pages.state c.load.new.pages) c.in-Err.fault
    c.in-Err.ensures.fault

pub returns-in-Err-view_of-clause-fault : goal.returns-in-Err-view_of-clause-fault
returns-in-Err-view_of-clause-fault g c =
    root_misshown (g.G.Pages.state c.args.pages.now) (g.G.Pages.state c.load.new.pages) c.in-Ok.page c.in-Err-view_of.fault
    c.in-Ok.ensures.page c.in-Err-view_of.ensures.odd c.in-Err-view_of.ensures.not_shown

pub returns-clause-found : goal.returns-clause-found
returns-clause-found g c =
    found_in_tree _ (g.G.Pages.state c.args.pages.now) (g.G.Pages.state c.load.new.pages) (g.G.Pages.state c.walk.new.pages)
    c.in-Ok.page c.in-Ok-view_of.view c.walk.result c.in-Ok.ensures.page c.in-Ok-view_of.ensures.shown c.walk.ensures.walks

pub returns-clause-only_reads : goal.returns-clause-only_reads
returns-clause-only_reads g c = only_then _ _ _ c.in-Ok.ensures.only_reads c.walk.ensures.walks.only

pub returns-clause-fault : goal.returns-clause-fault
returns-clause-fault g c =
    cause_in_tree _ (g.G.Pages.state c.args.pages.now) (g.G.Pages.state c.load.new.pages) (g.G.Pages.state c.walk.new.pages)
    c.in-Ok.page c.in-Ok-view_of.view c.walk.result c.in-Ok.ensures.page c.in-Ok.ensures.only_reads
    c.in-Ok-view_of.ensures.shown c.walk.ensures.walks

pub returns-clause-met : goal.returns-clause-met
returns-clause-met g c = λ aim.
    finds_in_tree _ (g.G.Pages.state c.args.pages.now) (g.G.Pages.state c.load.new.pages) (g.G.Pages.state c.walk.new.pages)
    c.in-Ok.page c.in-Ok-view_of.view c.walk.result c.in-Ok.ensures.page c.in-Ok-view_of.ensures.shown
    c.walk.ensures.walks.only
    (rw aim at c.walk.ensures.met)
