use Rattle.std.proofs.Common.{◌≡◌, ◌-◌, ◌∙◌, ap, arith}
use Rattle.sf_block.specs.Contents.{writing, blocks_of}
use Rattle.sf_inode.specs.Stores.{StoreState, blocks_left_at, bytes_of}
use Rattle.sf_walk.proofs.Beginning.{WriteBegun, some_blocks, left_begun, others_now, holder_now, label_now, left_now, sessions_now, start_keeps}
use Rattle.sf_walk.proofs.handle_calls.start_bytes.Goals as goal

pub copy_block-requires : goal.copy_block-requires
copy_block-requires c =
    let s = c.args.store.now in
    let left : blocks_left_at c.start_write.new.self.nodes c.args.node ≡ blocks_of c.args.start c.args.bytes.now =
    ap (λ (x : StoreState). blocks_left_at x.nodes c.args.node) c.in_ok-start_write.ensures.ok ∙ left_begun (writing (bytes_of s.nodes c.args.node) c.args.start c.args.bytes.now) s c.args.node c.requires.file in
    omega (arith, left, some_blocks c.args.start c.args.bytes.now c.requires.some)

pub returns-clause-tree : goal.returns-clause-tree
returns-clause-tree c = λ t label m contents h shows.
    let w : WriteBegun c.args.store.now c.touch.new.self c.args.node = record {
      moment = c.args.moment;
      start = c.args.start;
      bytes = c.args.bytes.now;
      left = blocks_left_at c.start_write.new.self.nodes c.args.node - 1;
      first = c.start_write.new.self;
      second = c.copy_block.new.self;
      begun = c.in_ok-start_write.ensures.ok;
      copied = c.copy_block.ensures;
      marked = c.touch.ensures;
    } in
    start_keeps c.args.store.now c.touch.new.self t (record { node = c.args.node; label = label; metadata = m; bytes = contents; shows = shows }) h w

pub returns-clause-left : goal.returns-clause-left
returns-clause-left c =
    let s = c.args.store.now in
    let w : WriteBegun c.args.store.now c.touch.new.self c.args.node = record {
      moment = c.args.moment;
      start = c.args.start;
      bytes = c.args.bytes.now;
      left = blocks_left_at c.start_write.new.self.nodes c.args.node - 1;
      first = c.start_write.new.self;
      second = c.copy_block.new.self;
      begun = c.in_ok-start_write.ensures.ok;
      copied = c.copy_block.ensures;
      marked = c.touch.ensures;
    } in
    let left : blocks_left_at c.start_write.new.self.nodes c.args.node ≡ blocks_of c.args.start c.args.bytes.now =
    ap (λ (x : StoreState). blocks_left_at x.nodes c.args.node) c.in_ok-start_write.ensures.ok ∙ left_begun (writing (bytes_of s.nodes c.args.node) c.args.start c.args.bytes.now) s c.args.node c.requires.file in
    omega (
      arith,
      left,
      some_blocks c.args.start c.args.bytes.now c.requires.some,
      left_now s c.touch.new.self c.args.node w c.requires.file,
    )

pub returns-clause-others : goal.returns-clause-others
returns-clause-others c =
    let w : WriteBegun c.args.store.now c.touch.new.self c.args.node = record {
      moment = c.args.moment;
      start = c.args.start;
      bytes = c.args.bytes.now;
      left = blocks_left_at c.start_write.new.self.nodes c.args.node - 1;
      first = c.start_write.new.self;
      second = c.copy_block.new.self;
      begun = c.in_ok-start_write.ensures.ok;
      copied = c.copy_block.ensures;
      marked = c.touch.ensures;
    } in
    others_now c.args.store.now c.touch.new.self c.args.node w

pub returns-clause-holder : goal.returns-clause-holder
returns-clause-holder c =
    let w : WriteBegun c.args.store.now c.touch.new.self c.args.node = record {
      moment = c.args.moment;
      start = c.args.start;
      bytes = c.args.bytes.now;
      left = blocks_left_at c.start_write.new.self.nodes c.args.node - 1;
      first = c.start_write.new.self;
      second = c.copy_block.new.self;
      begun = c.in_ok-start_write.ensures.ok;
      copied = c.copy_block.ensures;
      marked = c.touch.ensures;
    } in
    holder_now c.args.store.now c.touch.new.self c.args.node w

pub returns-clause-label : goal.returns-clause-label
returns-clause-label c =
    let w : WriteBegun c.args.store.now c.touch.new.self c.args.node = record {
      moment = c.args.moment;
      start = c.args.start;
      bytes = c.args.bytes.now;
      left = blocks_left_at c.start_write.new.self.nodes c.args.node - 1;
      first = c.start_write.new.self;
      second = c.copy_block.new.self;
      begun = c.in_ok-start_write.ensures.ok;
      copied = c.copy_block.ensures;
      marked = c.touch.ensures;
    } in
    label_now c.args.store.now c.touch.new.self c.args.node w

pub returns-clause-sessions : goal.returns-clause-sessions
returns-clause-sessions c =
    let w : WriteBegun c.args.store.now c.touch.new.self c.args.node = record {
      moment = c.args.moment;
      start = c.args.start;
      bytes = c.args.bytes.now;
      left = blocks_left_at c.start_write.new.self.nodes c.args.node - 1;
      first = c.start_write.new.self;
      second = c.copy_block.new.self;
      begun = c.in_ok-start_write.ensures.ok;
      copied = c.copy_block.ensures;
      marked = c.touch.ensures;
    } in
    sessions_now c.args.store.now c.touch.new.self c.args.node w
