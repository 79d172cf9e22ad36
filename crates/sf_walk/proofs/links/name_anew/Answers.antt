use Rattle.std.proofs.Common.{refl, sym, ap, subst, ◌∙◌}
use Rattle.sf_call.specs.Attributes.{modified_at}
use Rattle.sf_inode.specs.Nodes.{with_metadata, with_content, with_name, more_content}
use Rattle.sf_inode.specs.Stores.{StoreState, edited}
use Rattle.sf_walk.specs.declared.links.LinkCourse.{LinkCourse}
use Rattle.sf_walk.specs.Ways.{last_name_of}
use Rattle.sf_walk.specs.Served.{HoldersStay}
use Rattle.sf_walk.specs.Links.{IsLinking}
use Rattle.sf_walk.proofs.Holders.{more_left, stays_same, stays_edited}
use Rattle.sf_walk.proofs.Linking.{names_served}
use Rattle.sf_walk.proofs.links.name_anew.Goals as goal

pub returns-in_ok-link_last-in-Names-clause-served : goal.returns-in_ok-link_last-in-Names-clause-served
returns-in_ok-link_last-in-Names-clause-served c = λ t answer k is.
    names_served c.args.store.now c.touch.new.self t k c.args.moment answer (record {
      new = c.args.new.now;
      node = c.in-Names.node;
      into = c.in-Names.into;
      made = subst (λ (x : LinkCourse). IsLinking c.args.store.now t c.args.moment c.args.new.now answer x) c.in-Names.is is;
      state = c.touch.ensures ∙ ap (λ (x : StoreState). edited (with_metadata (modified_at c.args.moment)) x c.in-Names.into) c.in_ok-link_last-in-Names.ensures.ok;
    })

pub returns-in_ok-link_last-in-Names-clause-holders : goal.returns-in_ok-link_last-in-Names-clause-holders
returns-in_ok-link_last-in-Names-clause-holders c =
    subst (λ (x : StoreState). HoldersStay c.args.store.now x)
    (sym (c.touch.ensures ∙ ap (λ (x : StoreState). edited (with_metadata (modified_at c.args.moment)) x c.in-Names.into) c.in_ok-link_last-in-Names.ensures.ok))
    (stays_edited (with_metadata (modified_at c.args.moment)) (λ node. (refl, refl, refl)) c.args.store.now _ c.in-Names.into
    (stays_edited with_name (λ node. (refl, refl, refl)) c.args.store.now _ c.in-Names.node
    (stays_edited (with_content (more_content (last_name_of c.args.new.now) c.in-Names.node)) (λ node. (refl, refl, more_left (last_name_of c.args.new.now) c.in-Names.node node.content)) c.args.store.now c.args.store.now c.in-Names.into (stays_same c.args.store.now c.args.store.now refl))))
