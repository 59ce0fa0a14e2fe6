mod Questions
