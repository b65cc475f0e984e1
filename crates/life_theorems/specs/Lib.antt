-- Lives and the ends of locks, grants, tickets and pool grants: Life is the statements, proved in Lives and Ended; LifeCase has cases
-- of them.
pub mod Life
