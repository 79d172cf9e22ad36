-- Directory entries as READDIR returns them.
use Rattle.std.specs.Prelude.{ℕ, List, Option, option_map}
use Rattle.sf_path.specs.Names.{Name}
use Rattle.sf_reply.specs.declared.reply.Entry.{Entry}
use Rattle.sf_call.specs.Listings as listings
use Rattle.sf_inode.specs.declared.node.Node.{Node}
use Rattle.sf_inode.specs.Nodes.{object_in}
use Rattle.sf_inode.specs.Stores.{node_in}

-- an entry as listed, with the object of its inode and its number of links
abbrev pub node_entry : List (Option Node) → Name × ℕ → Option Entry
node_entry nodes e = option_map (λ node. listings.entry_of e.0 node.names
    (object_in node.metadata node.content)) (node_in nodes e.1)
