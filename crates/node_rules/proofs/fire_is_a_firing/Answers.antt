use Rattle.node_rules.proofs.WorldLaws.{next-firing, refuses, still-holds}
use Rattle.node_rules.proofs.fire_is_a_firing.Goals as goal

pub returns-clause-refuses : goal.returns-clause-refuses
returns-clause-refuses c shape part e test w holds known count well nodes lans least =
    refuses shape part e holds known count well test w nodes lans least

pub returns-clause-fires : goal.returns-clause-fires
returns-clause-fires c shape part e f test w holds known count well nodes lans least fires =
    next-firing shape part e holds known count well test w nodes lans least f fires

pub returns-clause-holds : goal.returns-clause-holds
returns-clause-holds c shape part e f holds known count well fires = still-holds shape part e holds known count well f fires
