-- Answer is definitions. Ticket is what the code does with a slot that does not ask, and the law that none is found.
pub mod Answer
pub mod Ticket
