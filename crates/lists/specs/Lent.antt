-- The lists that a caller lends (src/lent.rt), as the definitions read them.
use Rattle.lists.specs.Lists.{Lists, lists}
use Rattle.lists.specs.declared.lent.LentLists.{LentLists}

abbrev pub lent : LentLists → Lists
lent c = lists c.kind c.legs.now c.waypoints.now c.slopes.now
