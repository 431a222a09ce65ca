-- The theorem that is quoted of fewest erases, over the laws of specs/.
pub mod LawsFewest
pub mod LawsOrders
